use Rattle.std.proofs.Common.{sym, ap, subst, ◌∙◌}
use Rattle.command.specs.Reading.{value_reading, TakesMemory}
use Rattle.node.proofs.Unread.{not_read}
use Rattle.node.proofs.submitting.submitted.Goals as goal

pub returns-in_err-command : goal.returns-in_err-command
returns-in_err-command c = not_read _ c.args.value.now c.in_err-command.field-0.0 c.from_residual.result c.from_residual.ensures.1 (λ other. ap value_reading (sym c.as_bytes.ensures) ∙ c.in_err-command.ensures.err other) c.in_err-command.ensures.line
    (λ wanted. subst (λ v. TakesMemory v) c.as_bytes.ensures (c.in_err-command.ensures.memory wanted))

pub returns : goal.returns
returns c = let o = c.in_ok-command.ensures.ok in (o.0, ap value_reading (sym c.as_bytes.ensures) ∙ o.1, o.2)
