use Rattle.std.proofs.Common.{◌≡◌, Err, sym, ap, ◌∙◌}
use Rattle.command.specs.Reading.{value_reading}
use Rattle.command.specs.Effective.{commands_of}
use Rattle.content.specs.Answered.{applied_after}
use Rattle.release.proofs.Keeping.{passes}
use Rattle.release.proofs.releases.Releases.feed_value.Goals as goal

pub feed_command-requires-clause-reads : goal.feed_command-requires-clause-reads
feed_command-requires-clause-reads c = let o = c.in-Ok.ensures.ok in (o.0, ap value_reading (sym c.as_bytes.ensures) ∙ o.1, o.2)

pub pass-requires-clause-passes : goal.pass-requires-clause-passes
pass-requires-clause-passes c = passes c.args.self.now c.args.value c.in-Err.fault (ap value_reading (sym c.as_bytes.ensures) ∙ c.in-Err.ensures.err c.in_ok-no_command-in-Err.ensures)

pub returns-in_ok-pass-in-Err-clause-ok : goal.returns-in_ok-pass-in-Err-clause-ok
returns-in_ok-pass-in-Err-clause-ok c =
    let reads : value_reading c.args.value ≡ Err c.in-Err.fault = ap value_reading (sym c.as_bytes.ensures) ∙ c.in-Err.ensures.err c.in_ok-no_command-in-Err.ensures in
    (c.in_ok-pass-in-Err.ensures.ok, sym (ap (applied_after (commands_of c.args.self.now)) reads))
