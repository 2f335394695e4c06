-- What was read of the tokens, and what they then nest into.
use Rattle.std.proofs.Common.{◌≡◌, ℕ, ◌+◌, ◌<◌, ◌≤◌, Bool, true, List, [], ◌∷◌, map, length, drop, get_or, Some, Result, Ok, Err, Vec, Global, MatchResult, IfOk, IfErr, ◌≢◌, refl, sym, ap, subst, ◌∙◌}
use Rattle.std.proofs.lemmas.List.{drop_all, drop_more}
use Rattle.mustache_scan.specs.View.{token_view, tokens_view}
use Rattle.mustache_scan.specs.declared.fault.FaultKind.TheVariants.{OutOfMemory}
use Rattle.mustache_scan.specs.declared.fault.TemplateFault.{TemplateFault}
use Rattle.mustache_scan.specs.declared.token.Token.{Token}
use Rattle.mustache_parse.specs.Margin.{goes_on, levels_under}
use Rattle.mustache_parse.specs.Tree.{nothing, nest, open_after, left_open, last, onto, levels, first_level, unless, nested}
use Rattle.mustache_parse.specs.Stack.{before, opens_view, levels_with, marked_view, token_makes, Reads, AreNodesOf}
use Rattle.mustache_parse.specs.View.{tree_view}
use Rattle.mustache_parse.specs.declared.nesting.Nesting.{Nesting}
use Rattle.mustache_parse.specs.declared.node.Node.{Node}
use Rattle.mustache_parse.proofs.LevelLemmas.{onto-same}
use Rattle.mustache_parse.proofs.MakesLemmas.{nested_next, settled}
use Rattle.mustache_parse.proofs.StackLemmas.{before-nothing}

-- what was read stands for the tokens before those that are left, of which the first begins a line or does not
pub record StandsFor (tokens : List Token) (n : Nesting) (leads : Bool) (left : List Token) : Type 0 where
  pub opens : open_after [] (tokens_view tokens) ≡ open_after (opens_view n) (tokens_view left)
  pub levels_are : (w : List ℕ) → levels_under w true (map marked_view tokens) ≡ levels_with w n (levels_under w leads (map marked_view left))

pub begins : (tokens : List Token) (n : Nesting) → n.opened.items ≡ [] → n.nodes.items ≡ [] → StandsFor tokens n true tokens
begins tokens n none empty = record {
  opens = rw none refl;
  levels_are = λ w. rw (none, empty) (sym (onto-same (levels_under w true (map marked_view tokens))));
}

goes-further : (tokens : List Token) (old new : Nesting) (leads : Bool) (t : Token) (left : List Token) → StandsFor tokens old leads (t ∷ left)
    → Reads (token_view t) (token_makes t leads (goes_on (map marked_view left))) old new → StandsFor tokens new t.is_alone left
goes-further tokens old new leads t left h r = record {
  opens = h.opens ∙ ap (nested_next (tokens_view left)) r.nests;
  levels_are = λ w. h.levels_are w ∙ r.levels_are w (levels_under w t.is_alone (map marked_view left));
}

stops : (tokens : List Token) (n : Nesting) (leads : Bool) (t : Token) (left : List Token) (f : TemplateFault) → StandsFor tokens n leads (t ∷ left)
    → nest t.kind t.inside.now t.place (opens_view n) ≡ Err f → nested (tokens_view tokens) ≡ Err f
stops tokens n leads t left f h is = ap (settled (first_level (levels (tokens_view tokens)))) (h.opens ∙ ap (nested_next (tokens_view left)) is)

-- the token at an index
pub at_index : (tokens : List Token) (i : ℕ) (old new : Nesting) (leads trails : Bool) (d : Token) → i < length tokens → StandsFor tokens old leads (drop i tokens)
    → trails ≡ goes_on (map marked_view (drop (i + 1) tokens)) → Reads (token_view (get_or tokens i d)) (token_makes (get_or tokens i d) leads trails) old new
    → StandsFor tokens new (get_or tokens i d).is_alone (drop (i + 1) tokens)
at_index tokens i old new leads trails d l h is r =
    goes-further tokens old new leads (get_or tokens i d) (drop (i + 1) tokens) (subst (StandsFor tokens old leads) (drop_more tokens i d l) h)
    (subst (λ trails. Reads (token_view (get_or tokens i d)) (token_makes (get_or tokens i d) leads trails) old new) is r)

pub fault_at_index : (tokens : List Token) (i : ℕ) (n : Nesting) (leads : Bool) (d : Token) (f : TemplateFault) → i < length tokens → StandsFor tokens n leads (drop i tokens)
    → (let t = token_view (get_or tokens i d) in nest t.kind t.inside t.place (opens_view n) ≡ Err f) → nested (tokens_view tokens) ≡ Err f
fault_at_index tokens i n leads d f l h is =
    stops tokens n leads (get_or tokens i d) (drop (i + 1) tokens) f (subst (StandsFor tokens n leads) (drop_more tokens i d l) h) is

pub past_all : (tokens : List Token) (i : ℕ) (n : Nesting) (leads : Bool) → length tokens ≤ i → StandsFor tokens n leads (drop i tokens) → StandsFor tokens n leads []
past_all tokens i n leads l h = subst (StandsFor tokens n leads) (drop_all i tokens l) h

-- where no token is left
at_end : (tokens : List Token) (n : Nesting) (leads : Bool) (ns : List Node) → StandsFor tokens n leads [] → n.opened.items ≡ [] → ns ≡ n.nodes.items → AreNodesOf tokens ns
at_end tokens n leads ns e none same = record {
  nests = e.opens ∙ rw none refl;
  levels_are = λ w.
      let flat : levels_under w true (map marked_view tokens) ≡ onto (before w n.nodes.items) (last nothing) = e.levels_are w ∙ rw none refl in
      flat ∙ ap last (before-nothing w n.nodes.items) ∙ ap (λ ns. last (tree_view w ns)) (sym same);
}

pub fault_at_end : (tokens : List Token) (i : ℕ) (n : Nesting) (leads : Bool) (f : TemplateFault) → length tokens ≤ i → StandsFor tokens n leads (drop i tokens) → left_open (opens_view n) ≡ Some f → nested (tokens_view tokens) ≡ Err f
fault_at_end tokens i n leads f l h is =
    let e = past_all tokens i n leads l h in
    ap (settled (first_level (levels (tokens_view tokens)))) e.opens ∙ ap (λ o. unless o (first_level (levels (tokens_view tokens)))) is

-- what a parser's end answers
abbrev Ended : Nesting → Result (Vec Node Global) TemplateFault → Type 0
Ended n r = MatchResult r (λ ns. (n.opened.items ≡ []) × (ns.items ≡ n.nodes.items)) (λ f. left_open (opens_view n) ≡ Some f)

pub nodes_at_end : (tokens : List Token) (i : ℕ) (n : Nesting) (leads : Bool) (r : Result (Vec Node Global) TemplateFault) → length tokens ≤ i → StandsFor tokens n leads (drop i tokens) → Ended n r
    → IfOk r (λ ns. AreNodesOf tokens ns.items)
nodes_at_end tokens i n leads (Ok ns) l h e = at_end tokens n leads ns.items (past_all tokens i n leads l h) e.0 e.1
nodes_at_end tokens i n leads (Err f) l h e = tt

pub faults_at_end : (tokens : List Token) (i : ℕ) (n : Nesting) (leads : Bool) (r : Result (Vec Node Global) TemplateFault) → length tokens ≤ i → StandsFor tokens n leads (drop i tokens) → Ended n r
    → IfErr r (λ f. f.kind ≢ OutOfMemory → nested (tokens_view tokens) ≡ Err f)
faults_at_end tokens i n leads (Ok ns) l h e = tt
faults_at_end tokens i n leads (Err f) l h e = λ told. fault_at_end tokens i n leads f l h e
