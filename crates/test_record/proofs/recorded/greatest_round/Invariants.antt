use Rattle.std.proofs.Common.{◌≡◌, max, drop}
use Rattle.durable.specs.Entries.{greatest_round}
use Rattle.test_record.specs.Meaning.{meanings}
use Rattle.test_record.proofs.recorded.greatest_round.Given as goal

-- the greatest round so far, and the entries that are left
abbrev pub invariant-loop-entry : goal.invariant-loop-entry
invariant-loop-entry l = max l.greatest (greatest_round (meanings (drop l.entry-index l.entries))) ≡ greatest_round (meanings l.entries)
