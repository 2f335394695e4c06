use Rattle.std.proofs.Common.{sym, ap, ◌∙◌}
use Rattle.command.specs.Reading.{value_reading}
use Rattle.node.specs.Tickets.{ticket_by}
use Rattle.node.proofs.read_value.ReadValue.read.Goals as goal

pub invariant_of-result : goal.invariant_of-result
invariant_of-result c =
    let o = c.in-Ok.ensures.ok in
    (o.0, ap value_reading (c.in_ok-value-in-Ok.ensures ∙ sym c.as_bytes.ensures) ∙ o.1, o.2)

pub returns-in_default : goal.returns-in_default
returns-in_default c = ap ticket_by (ap value_reading (sym c.as_bytes.ensures) ∙ c.in-Err.ensures.err c.in_default.not-OutOfMemory)
