use Rattle.std.proofs.Common.{◌≡◌, ◌≢◌, ℕ, ◌<◌, false, List, [], ◌∷◌, ◌++◌, length, get_or, nat_eq, Option, Some, None, Bor, MatchOption, IfSome, refl, sym, ap, ◌∙◌, arith, lit<, length-append}
use Rattle.std.proofs.lemmas.List.{get_or_default}
use Rattle.std.proofs.lemmas.List.Splits.{slice_split_none, slice_split_at}
use Rattle.std.proofs.lemmas.Str.Pattern.{split_parts}
use Rattle.std.proofs.lemmas.Bool.Decides.{nat_tests}
use Rattle.context.specs.LookUp.{parts}
use Rattle.context.proofs.look_up.cut_at_dot.Goals as goal

differs : (a : ℕ) → a ≢ 46 → nat_eq a 46 ≡ false
differs a h = grind (arith, nat_tests)

not_dot : (bs : List ℕ) (k d : ℕ) → k < length bs → get_or bs k 0 ≢ 46 → nat_eq (get_or bs k d) 46 ≡ false
not_dot bs k d below h = rw (get_or_default bs k d 0 below) (differs (get_or bs k 0) h)

abbrev Cuts : List ℕ → Option (Bor (List ℕ) × Bor (List ℕ)) → Type 0
Cuts bs r = MatchOption r ((i : ℕ) → i < length bs → get_or bs i 0 ≢ 46) (λ x. (bs ≡ x.0.now ++ (46 ∷ x.1.now)) × ((i : ℕ) → i < length x.0.now → get_or x.0.now i 0 ≢ 46))

in_parts : (bs : List ℕ) (r : Option (Bor (List ℕ) × Bor (List ℕ))) → Cuts bs r → MatchOption r (parts bs ≡ bs ∷ []) (λ x. parts bs ≡ x.0.now ∷ parts x.1.now)
in_parts bs None h = slice_split_none (λ b. nat_eq b 46) bs (λ k d below. not_dot bs k d below (h k below))
in_parts bs (Some x) h = ap parts h.0 ∙ slice_split_at (λ b. nat_eq b 46) x.0.now 46 x.1.now (λ k d below. not_dot x.0.now k d below (h.1 k below)) refl

shorter : (bs : List ℕ) (r : Option (Bor (List ℕ) × Bor (List ℕ))) → Cuts bs r → IfSome r (λ x. length x.1.now < length bs)
shorter bs None h = tt
shorter bs (Some x) h = let e = ap length h.0 ∙ length-append x.0.now (46 ∷ x.1.now) in omega (arith, e)

cuts : (c : goal.After-split_once) → Cuts c.args.path.now c.split_once.result
cuts c = split_parts 46 c.args.path.now c.split_once.result c.split_once.ensures.cases (lit< tt)

pub returns-clause-parts : goal.returns-clause-parts
returns-clause-parts c = in_parts c.args.path.now c.split_once.result (cuts c)

pub returns-clause-shorter : goal.returns-clause-shorter
returns-clause-shorter c = shorter c.args.path.now c.split_once.result (cuts c)

pub returns-then-not-contains-clause-parts : goal.returns-then-not-contains-clause-parts
returns-then-not-contains-clause-parts c = rw (sym c.as_bytes.ensures.value) (slice_split_none (λ b. nat_eq b 46) c.as_bytes.result.now (λ k d below. c.if-not-contains.ensures.cases k d (omega arith) below))
