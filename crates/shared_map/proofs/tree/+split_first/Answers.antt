use Rattle.std.proofs.Common.{ap, sym, subst, ◌∙◌, ◌∷◌, ◌++◌}
use Rattle.shared_map.specs.Entries.{IsRising}
use Rattle.shared_map.proofs.Forks.{at_fork}
use Rattle.shared_map.proofs.tree.+split_first.Goals as goal

pub balanced-requires : goal.balanced-requires
balanced-requires g t c =
    let n = c.args.node.now in
    let parts = c.in_ok-first-in-Some.ensures ∙ ap (λ f. f.left ++ f.entry.value ∷ f.right) c.deref.ensures ∙ sym (at_fork c.left.view_is c.in-Some.is) in
    (subst (λ l. IsRising g.K.Ord.cmp (l ++ n.entry.value ∷ n.right)) (sym parts) c.requires).1

pub returns-in_ok-others-in-Some : goal.returns-in_ok-others-in-Some
returns-in_ok-others-in-Some g t c =
    let n = c.args.node.now in
    let parts = c.in_ok-first-in-Some.ensures ∙ ap (λ f. f.left ++ f.entry.value ∷ f.right) c.deref.ensures ∙ sym (at_fork c.left.view_is c.in-Some.is) in
    rw c.in_ok-others-in-Some.ensures (ap (λ l. l ++ n.entry.value ∷ n.right) parts)
