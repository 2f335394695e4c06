use Rattle.std.proofs.Common.{◌∙◌}
use Rattle.std.proofs.lemmas.Result.{IfOk-weaker}
use Rattle.content.proofs.Values.{not_a_command}
use Rattle.content.proofs.site.Site.apply.Goals as goal

pub returns-in-Ok-clause-ok : goal.returns-in-Ok-clause-ok
returns-in-Ok-clause-ok c =
    let order = c.in-Ok.ensures.ok in
    IfOk-weaker c.apply_command.result _ _ (λ a done values is. done values c.args.value.now order.0 order.1 order.2 is) c.apply_command.ensures.ok

pub returns-in-Err-clause-ok : goal.returns-in-Err-clause-ok
returns-in-Err-clause-ok c =
    IfOk-weaker c.no_command.result _ _
    (λ a none values is. let same = not_a_command c.args.self.now values c.args.value.now c.in-Err.fault (c.in-Err.ensures.err none.1) is in (same.0, none.0 ∙ same.1)) c.no_command.ensures
