use Rattle.std.proofs.Common.{sym, ◌∙◌}
use Rattle.editor_ledger.proofs.Readings.{released_then}
use Rattle.editor_ledger.proofs.Spellings.{newline, space, same_released}
use Rattle.editor_ledger.proofs.reading.released.Goals as goal

pub returns-in_err-release : goal.returns-in_err-release
returns-in_err-release c r more fits is exact = absurd (c.in_err-release.ensures r.release _ fits.0 space (is ∙ released_then r more))

pub returns-in_err-time : goal.returns-in_err-time
returns-in_err-time c r more fits is exact =
    let release = c.in_ok-release.ensures r.release _ fits.0 space (is ∙ released_then r more) in
    absurd (c.in_err-time.ensures r.time _ fits.1 space release.1)

pub returns-in_err-commands : goal.returns-in_err-commands
returns-in_err-commands c r more fits is exact =
    let release = c.in_ok-release.ensures r.release _ fits.0 space (is ∙ released_then r more) in
    let time = c.in_ok-time.ensures r.time _ fits.1 space release.1 in
    absurd (c.in_err-commands.ensures r.commands _ fits.2 newline time.1)

pub returns : goal.returns
returns c r more fits is exact =
    let release = c.in_ok-release.ensures r.release _ fits.0 space (is ∙ released_then r more) in
    let time = c.in_ok-time.ensures r.time _ fits.1 space release.1 in
    let commands = c.in_ok-commands.ensures r.commands _ fits.2 newline time.1 in
    (same_released _ r (sym exact) release.0 time.0 commands.0, commands.1)
