use Rattle.std.proofs.Common.{take}
use Rattle.durable.specs.Entries.{IsPromise}
use Rattle.test_record.specs.Meaning.{meanings}
use Rattle.test_record.proofs.recorded.promise.Given as goal

abbrev pub invariant-loop-entry : goal.invariant-loop-entry
invariant-loop-entry l = IsPromise (meanings (take l.entry-index l.entries)) l.instance l.promised
