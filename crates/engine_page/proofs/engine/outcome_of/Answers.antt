use Rattle.std.proofs.Common.{inr, subst}
use Rattle.std.proofs.lemmas.Result.{IfOk-weaker}
use Rattle.engine_page.specs.Standing.{IsInput}
use Rattle.engine_page.proofs.engine.outcome_of.Goals as goal

pub returns-in-Fed : goal.returns-in-Fed
returns-in-Fed c =
    let whole = subst (IsInput c.args.input.now) c.in-Fed.is c.in_ok-line.ensures in
    IfOk-weaker c.answered.result _ _ (λ o is. inr (c.in-Fed.releases, whole, is)) c.answered.ensures
