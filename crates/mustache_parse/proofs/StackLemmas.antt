-- One more token, beside the sections open and the nodes so far.
use Rattle.std.proofs.Common.{◌≡◌, ℕ, Bool, List, [], ◌∷◌, ◌++◌, map, reverse, Some, Result, Ok, Err, string_bytes, refl, sym, ap, ◌∙◌, OnOk, true, false, not, bytes_eq, slice_get, option_map}
use Rattle.std.proofs.lemmas.List.{reverse-append, map-append}
use Rattle.std.proofs.lemmas.Bool.{false≢true}
use Rattle.std.proofs.lemmas.Slice.Eq.{bytes_eq-Decides}
use Rattle.mustache_scan.specs.Standalone.{TokenSeen}
use Rattle.mustache_scan.specs.declared.fault.FaultKind.TheVariants.{UnclosedSection}
use Rattle.mustache_scan.specs.declared.fault.TemplateFault.{TemplateFault}
use Rattle.mustache_scan.specs.declared.token.TokenKind.TheVariants.{End}
use Rattle.mustache_parse.specs.Tree.{Tree, nothing, Open, nest, ending, left_open, Levels, last, up_to_end, onto, closing}
use Rattle.mustache_parse.specs.Stack.{before, made_by, levels_over, open_view, opens_view, levels_with, Reads}
use Rattle.mustache_parse.specs.View.{node_onto, tree_view}
use Rattle.mustache_parse.specs.declared.nesting.Nesting.{Nesting}
use Rattle.mustache_parse.specs.declared.nesting.OpenSection.{OpenSection}
use Rattle.mustache_parse.specs.declared.node.Node.{Node}
use Rattle.mustache_parse.proofs.FaultLemmas.{outermost_left}
use Rattle.mustache_parse.proofs.LevelLemmas.{Waiting, onto_stack, more-nodes, ends}

onto_equal : (f g : Tree → Tree) → ((u : Tree) → f u ≡ g u) → (ls : Levels) → onto f ls ≡ onto g ls
onto_equal f g same (last nodes) = ap last (same nodes)
onto_equal f g same (up_to_end nodes more) = ap (λ t. up_to_end t more) (same nodes)

stack_equal : (ws : List Waiting) (f g : Tree → Tree) → ((u : Tree) → f u ≡ g u) → (ls : Levels) → onto_stack ws f ls ≡ onto_stack ws g ls
stack_equal [] f g same ls = onto_equal f g same ls
stack_equal (w ∷ ws) f g same ls = ap (λ l. onto_stack ws w.before (closing w.make l)) (onto_equal f g same ls)

module _ (w : List ℕ) where
  pub before-nothing : (ns : List Node) → before w ns nothing ≡ tree_view w ns
  before-nothing [] = refl
  before-nothing (n ∷ ns) = ap (node_onto w n) (before-nothing ns)

  before-push : (ns : List Node) (n : Node) (u : Tree) → before w ns (node_onto w n u) ≡ before w (ns ++ n ∷ []) u
  before-push [] n u = refl
  before-push (m ∷ ns) n u = ap (node_onto w m) (before-push ns n u)

  -- an open section, as it waits for its end
  abbrev waiting : OpenSection → Waiting
  waiting s = record { make = made_by s.is_inverted (string_bytes s.name); before = before w s.before.items }

  over-stack : (ss : List OpenSection) (ns : List Node) (ls : Levels) → levels_over w ss ns ls ≡ onto_stack (map waiting ss) (before w ns) ls
  over-stack [] ns ls = refl
  over-stack (s ∷ ss) ns ls = over-stack ss s.before.items (closing (made_by s.is_inverted (string_bytes s.name)) (onto (before w ns) ls))

  -- a node more
  over-push : (ss : List OpenSection) (ns : List Node) (n : Node) (ls : Levels) → levels_over w ss ns (onto (node_onto w n) ls) ≡ levels_over w ss (ns ++ n ∷ []) ls
  over-push ss ns n ls =
      over-stack ss ns (onto (node_onto w n) ls)
      ∙ more-nodes (map waiting ss) (before w ns) (node_onto w n) ls
      ∙ stack_equal (map waiting ss) (λ t. before w ns (node_onto w n t)) (before w (ns ++ n ∷ [])) (before-push ns n) ls
      ∙ sym (over-stack ss (ns ++ n ∷ []) ls)

  -- and a section that ends
  over-end : (s : OpenSection) (ss : List OpenSection) (ns : List Node) (n : Node) → node_onto w n ≡ made_by s.is_inverted (string_bytes s.name) (tree_view w ns) → (ls : Levels)
      → levels_over w (s ∷ ss) ns (up_to_end nothing ls) ≡ levels_over w ss (s.before.items ++ n ∷ []) ls
  over-end s ss ns n is ls =
      over-stack (s ∷ ss) ns (up_to_end nothing ls)
      ∙ ends (waiting s) (map waiting ss) (before w ns) ls
      ∙ stack_equal (map waiting ss) _ (λ t. before w s.before.items (node_onto w n t)) (λ u. ap (λ t. before w s.before.items (made_by s.is_inverted (string_bytes s.name) t u)) (before-nothing ns) ∙ ap (λ f. before w s.before.items (f u)) (sym is)) ls
      ∙ sym (more-nodes (map waiting ss) (before w s.before.items) (node_onto w n) ls)
      ∙ sym (over-stack ss s.before.items (onto (node_onto w n) ls))
      ∙ over-push ss s.before.items n ls

  -- the levels of a nesting with a node more
  pub levels-push : (old new : Nesting) (n : Node) → new.opened.items ≡ old.opened.items → new.nodes.items ≡ old.nodes.items ++ n ∷ [] → (ls : Levels) → levels_with w old (onto (node_onto w n) ls) ≡ levels_with w new ls
  levels-push old new n opened nodes ls =
      over-push (reverse old.opened.items) old.nodes.items n ls
      ∙ ap (λ ns. levels_over w (reverse old.opened.items) ns ls) (sym nodes)
      ∙ ap (λ ss. levels_over w (reverse ss) new.nodes.items ls) (sym opened)

pub opens-same : (old new : Nesting) → new.opened.items ≡ old.opened.items → opens_view old ≡ opens_view new
opens-same old new opened = ap (λ l. map open_view (reverse l)) (sym opened)

-- what a token reads that is a node by itself
pub reads_leaf : (t : TokenSeen) (make : List ℕ → Levels → Levels) (old new : Nesting) (n : Node) (r : Result (Unit {0}) TemplateFault)
    → ((above : List Open) → nest t.kind t.inside t.place above ≡ Ok above)
    → ((w : List ℕ) (ls : Levels) → make w ls ≡ onto (node_onto w n) ls)
    → OnOk r (new.opened.items ≡ old.opened.items) → OnOk r (new.nodes.items ≡ old.nodes.items ++ n ∷ []) → OnOk r (Reads t make old new)
reads_leaf t make old new n (Err f) nests is opened nodes = tt
reads_leaf t make old new n (Ok u) nests is opened nodes = record {
  nests = nests (opens_view old) ∙ ap Ok (opens-same old new opened);
  levels_are = λ w ls. ap (levels_with w old) (is w ls) ∙ levels-push w old new n opened nodes ls;
}

ending_named : (name : List ℕ) (place : ℕ) (o : Open) (above : List Open) → name ≡ o.name → ending name place (o ∷ above) ≡ Ok above
ending_named name place o above same = let e : bytes_eq name o.name ≡ true = (bytes_eq-Decides name o.name).1 same in rw (e, ending)

-- names that were found to be the same
pub same_name : (a b : List ℕ) → false ≡ not (bytes_eq a b) → b ≡ a
same_name a b h = by_test (bytes_eq a b) refl h
  where
    by_test : (r : Bool) → bytes_eq a b ≡ r → false ≡ not r → b ≡ a
    by_test true is h = sym ((bytes_eq-Decides a b).0 is)
    by_test false is h = absurd (false≢true h)

-- what an end tag reads that ends the last of the open sections
pub reads_end : (t : TokenSeen) (make : List ℕ → Levels → Levels) (old new : Nesting) (s : OpenSection) (left : List OpenSection) (n : Node) (r : Result (Unit {0}) TemplateFault)
    → t.kind ≡ End → ((w : List ℕ) (ls : Levels) → make w ls ≡ up_to_end nothing ls) → t.inside ≡ string_bytes s.name → old.opened.items ≡ left ++ s ∷ []
    → ((w : List ℕ) → node_onto w n ≡ made_by s.is_inverted (string_bytes s.name) (tree_view w old.nodes.items))
    → OnOk r (new.opened.items ≡ left) → OnOk r (new.nodes.items ≡ s.before.items ++ n ∷ []) → OnOk r (Reads t make old new)
reads_end t make old new s left n (Err f) is makes same split made opened nodes = tt
reads_end t make old new s left n (Ok u) is makes same split made opened nodes =
    let back : reverse old.opened.items ≡ s ∷ reverse left = ap reverse split ∙ reverse-append left (s ∷ []) in
    record {
      nests =
          ap (λ k. nest k t.inside t.place (opens_view old)) is
          ∙ ap (λ ss. ending t.inside t.place (map open_view ss)) back
          ∙ ending_named t.inside t.place (open_view s) (map open_view (reverse left)) same
          ∙ ap (λ l. Ok (map open_view (reverse l))) (sym opened);
      levels_are = λ w ls.
          ap (levels_with w old) (makes w ls)
          ∙ ap (λ ss. levels_over w ss old.nodes.items (up_to_end nothing ls)) back
          ∙ over-end w s (reverse left) old.nodes.items n (made w) ls
          ∙ ap (λ ns. levels_over w (reverse left) ns ls) (sym nodes)
          ∙ ap (λ l. levels_over w (reverse l) new.nodes.items ls) (sym opened);
    }

-- the outermost of the open sections is the first that was opened
first_of : (ss : List OpenSection) (s : OpenSection) → Some s ≡ slice_get ss 0 → left_open (map open_view (reverse ss)) ≡ Some (record { kind = UnclosedSection; place = s.place })
first_of [] s h = absurd (cc)
first_of (o ∷ os) s h =
    ap (λ l. left_open (map open_view l)) (reverse-append (o ∷ []) os)
    ∙ ap left_open (map-append open_view (reverse os) (o ∷ []))
    ∙ outermost_left (map open_view (reverse os)) (open_view o)
    ∙ ap (λ r. option_map (λ (x : OpenSection). record { kind = UnclosedSection; place = x.place }) r) (sym h)

pub first_left : (n : Nesting) (s : OpenSection) → Some s ≡ slice_get n.opened.items 0 → left_open (opens_view n) ≡ Some (record { kind = UnclosedSection; place = s.place })
first_left n s h = first_of n.opened.items s h
