use Rattle.std.proofs.Common.{◌∙◌, ap, Err, inr, false}
use Rattle.std.specs.Fn.{FnReturnsAt}
use Rattle.std.proofs.lemmas.Result.{err_from_is_err_and}
use Rattle.engine_common.proofs.Fed.{grown_then, ended, fault_then}
use Rattle.engine_common.proofs.filling.fill.Goals as goal

pub returns-in_err-read_more : goal.returns-in_err-read_more
returns-in_err-read_more g c =
    let p = err_from_is_err_and c.from_residual.result c.from_residual.ensures.1 in
    fault_then (λ held. FnReturnsAt g.F.Fn c.args.is_short held false) _ _ _ _ _ _ _ _ _ c.in_err-read_more.field-0.0 _ (p.1 ∙ ap Err p.2) c.loop-feed.invariant.0 c.loop-feed.invariant.1 c.in_err-read_more.ensures

pub returns-then-not-branch : goal.returns-then-not-branch
returns-then-not-branch g c =
    let e = ended _ _ _ c.in_ok-read_more.field-0 c.if-not-branch.true c.in_ok-read_more.ensures in
    (grown_then _ _ _ _ _ _ _ _ _ c.loop-feed.invariant.0 e.0, e.1 ∙ c.loop-feed.invariant.1, inr e.2)
