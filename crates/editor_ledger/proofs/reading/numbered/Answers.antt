use Rattle.std.proofs.Common.{◌∙◌}
use Rattle.editor_ledger.proofs.Readings.{numbered_then}
use Rattle.editor_ledger.proofs.Spellings.{space}
use Rattle.editor_ledger.proofs.reading.numbered.Goals as goal

pub returns-in_err-number : goal.returns-in_err-number
returns-in_err-number c g more fits is = absurd (c.in_err-number.ensures g.number _ fits.0 space (is ∙ numbered_then g more))

pub returns-in_err-counted : goal.returns-in_err-counted
returns-in_err-counted c g more fits is =
    let number = c.in_ok-number.ensures g.number _ fits.0 space (is ∙ numbered_then g more) in
    absurd (c.in_err-counted.ensures g.text more fits.1 number.1)

pub returns : goal.returns
returns c g more fits is =
    let number = c.in_ok-number.ensures g.number _ fits.0 space (is ∙ numbered_then g more) in
    let counted = c.in_ok-counted.ensures g.text more fits.1 number.1 in
    (number.0, counted.0, counted.1)
