use Rattle.std.proofs.Common.{take}
use Rattle.durable.specs.Histories.{IsHistory}
use Rattle.test_record.specs.Meaning.{meanings}
use Rattle.test_record.proofs.history.is_history.Given as goal

abbrev pub invariant-loop-at : goal.invariant-loop-at
invariant-loop-at l = IsHistory l.cluster (meanings (take l.at l.entries))
