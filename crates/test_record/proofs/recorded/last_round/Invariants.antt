use Rattle.std.proofs.Common.{◌≡◌, drop}
use Rattle.durable.specs.Entries.{round_after, last_round}
use Rattle.test_record.specs.Meaning.{meanings}
use Rattle.test_record.proofs.recorded.last_round.Given as goal

-- the last round so far, and the entries that are left
abbrev pub invariant-loop-entry : goal.invariant-loop-entry
invariant-loop-entry l = round_after l.last (meanings (drop l.entry-index l.entries)) ≡ last_round (meanings l.entries)
