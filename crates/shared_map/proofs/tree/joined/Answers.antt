use Rattle.std.proofs.Common.{ap, sym, subst, ◌∙◌, ◌++◌}
use Rattle.std.proofs.lemmas.Result.{IfOk-weaker}
use Rattle.shared_map.specs.Entries.{IsRising}
use Rattle.shared_map.proofs.tree.joined.Goals as goal

pub balanced-requires : goal.balanced-requires
balanced-requires g c = subst (λ r. IsRising g.K.Ord.cmp (c.args.left.now ++ r)) (c.in-Some.ensures.some ∙ sym c.in_ok-first-in-Some.ensures) c.requires

pub returns-in_ok-first-in-Some : goal.returns-in_ok-first-in-Some
returns-in_ok-first-in-Some g c =
    IfOk-weaker c.balanced.result _ _ (λ m is. is ∙ ap (λ r. c.args.left.now ++ r) (c.in_ok-first-in-Some.ensures ∙ sym c.in-Some.ensures.some)) c.balanced.ensures
