-- When tokens have a tree: where they make it, with few enough sections open at once.
use Rattle.std.proofs.Common.{◌≡◌, ◌≤◌, List, [], ◌∷◌, Option, Some, None, Result, Ok, Err, refl, sym, ap, subst, ◌∙◌, arith, append-nil}
use Rattle.mustache_scan.specs.Standalone.{TokenSeen}
use Rattle.mustache_scan.specs.declared.fault.TemplateFault.{TemplateFault}
use Rattle.mustache_parse.specs.Laws.{TreeIsMade, MakesAtMostOne, FaultIsFirst}
use Rattle.mustache_parse.specs.Makes.{Makes, depth}
use Rattle.mustache_parse.specs.Tree.{Tree, Open, open_after, left_open, last, levels, first_level, unless, nested}
use Rattle.mustache_parse.proofs.MakesLemmas.{graft-nothing, levels_of, opens_of, settled}
use Rattle.mustache_parse.proofs.NestingLemmas.{Made, none_open-made}
use Rattle.mustache_parse.proofs.FaultLemmas.{Outcome, outcome_of, has_fault, fault_is}

-- the levels of what makes a tree are that tree
pub made_levels : (ts : List TokenSeen) (tree : Tree) → Makes ts tree → levels ts ≡ last tree
made_levels ts tree m = ap levels (sym (append-nil ts)) ∙ levels_of ts tree m [] ∙ ap last (graft-nothing tree)

made_opens : (ts : List TokenSeen) (tree : Tree) → Makes ts tree → depth tree ≤ 64 → open_after [] ts ≡ Ok []
made_opens ts tree m low = ap (open_after []) (sym (append-nil ts)) ∙ opens_of ts tree m [] [] (omega arith)

has_tree : (ts : List TokenSeen) (tree : Tree) → Makes ts tree → depth tree ≤ 64 → nested ts ≡ Ok tree
has_tree ts tree m low = ap (settled (first_level (levels ts))) (made_opens ts tree m low) ∙ ap (λ ls. Ok (first_level ls)) (made_levels ts tree m)

none_left : (above : List Open) → left_open above ≡ None → above ≡ []
none_left [] h = refl
none_left (o ∷ []) h = absurd (cc)
none_left (o ∷ p ∷ above) h = let e = none_left (p ∷ above) h in absurd (cc)

unless_ok : (o : Option TemplateFault) (a b : Tree) → unless o a ≡ Ok b → (o ≡ None) × (a ≡ b)
unless_ok None a b h = (refl, cc)
unless_ok (Some f) a b h = absurd (cc)

settled_ok : (r : Result (List Open) TemplateFault) (a b : Tree) → settled a r ≡ Ok b → (r ≡ Ok []) × (a ≡ b)
settled_ok (Ok above) a b h = let both = unless_ok (left_open above) a b h in (ap Ok (none_left above both.0), both.1)
settled_ok (Err f) a b h = absurd (cc)

from_made : (ts : List TokenSeen) (tree : Tree) → first_level (levels ts) ≡ tree → Made ts → Makes ts tree × (depth tree ≤ 64)
from_made ts tree is m =
    let same : m.tree ≡ tree = sym (ap first_level (made_levels ts m.tree m.made)) ∙ is in
    subst (λ (t : Tree). Makes ts t × (depth t ≤ 64)) same (m.made, m.low)

made : (ts : List TokenSeen) (tree : Tree) → nested ts ≡ Ok tree → Makes ts tree × (depth tree ≤ 64)
made ts tree h =
    let both = settled_ok (open_after [] ts) (first_level (levels ts)) tree h in
    from_made ts tree both.1 (none_open-made ts [] (subst (Outcome ts) both.0 (outcome_of ts)) refl)

pub tree-made : TreeIsMade
tree-made ts tree = (made ts tree, λ both. has_tree ts tree both.0 both.1)

last_same : (a b : Tree) → last a ≡ last b → a ≡ b
last_same a b h = ap first_level h

pub makes-one : MakesAtMostOne
makes-one ts one other m n = last_same one other (sym (made_levels ts one m) ∙ made_levels ts other n)

pub fault-first : FaultIsFirst
fault-first ts f = (has_fault ts f, fault_is ts f)
