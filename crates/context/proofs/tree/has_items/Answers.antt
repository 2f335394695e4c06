use Rattle.std.proofs.Common.{◌≡◌, ℕ, suc, false, not, List, [], ◌∷◌, length, nat_eq, refl, ap, ◌∙◌, arith}
use Rattle.std.proofs.lemmas.Bool.Decides.{nat_tests}
use Rattle.context.specs.Whole.{list}
use Rattle.context.specs.LookUp.{is_truthy}
use Rattle.context.specs.View.{items_view}
use Rattle.context.specs.declared.tree.Data.{Data}
use Rattle.context.proofs.tree.has_items.Goals as goal

some : (n : ℕ) → nat_eq (suc n) 0 ≡ false
some n = grind (arith, nat_tests)

any_item : (ds : List Data) → not (nat_eq (length ds) 0) ≡ is_truthy (list (items_view ds))
any_item [] = refl
any_item (d ∷ ds) = ap not (some (length ds))

pub returns : goal.returns
returns c = ap not c.is_empty.ensures ∙ any_item c.args.elements.now
