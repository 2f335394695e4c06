use Rattle.std.proofs.Common.{◌≡◌, max, drop}
use Rattle.durable.specs.Entries.{reach_of}
use Rattle.test_record.specs.Meaning.{meanings}
use Rattle.test_record.proofs.recorded.reach.Given as goal

-- how far they reach so far, and the entries that are left
abbrev pub invariant-loop-entry : goal.invariant-loop-entry
invariant-loop-entry l = max l.greatest (reach_of (meanings (drop l.entry-index l.entries))) ≡ reach_of (meanings l.entries)
