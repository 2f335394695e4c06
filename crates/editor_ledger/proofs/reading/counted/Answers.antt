use Rattle.std.proofs.Common.{length, true≢false, sym, ◌∙◌}
use Rattle.editor_ledger.proofs.Readings.{counted_then, boundary}
use Rattle.editor_ledger.proofs.Spellings.{newline}
use Rattle.editor_ledger.proofs.reading.counted.Goals as goal

pub returns-in_err-length : goal.returns-in_err-length
returns-in_err-length c t more fits is = absurd (c.in_err-length.ensures (length t) _ fits newline (is ∙ counted_then t more))

pub returns-in_default : goal.returns-in_default
returns-in_default c t more fits is =
    let length = c.in_ok-length.ensures (length t) _ fits newline (is ∙ counted_then t more) in
    true≢false (sym (c.in_default.ensures.variant.1 (boundary t more c.in_ok-length.rest.now _ length.0 length.1)))
