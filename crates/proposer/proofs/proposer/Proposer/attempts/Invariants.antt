use Rattle.std.proofs.Common.{◌≡◌, ◌+◌, ◌≤◌, length}
use Rattle.std.specs.Map.{values_of}
use Rattle.proposer.proofs.CountingOpen.{count_some}
use Rattle.proposer.proofs.proposer.Proposer.attempts.Given as goal

-- those seen and those to come are all
abbrev pub invariant-loop-attempt : goal.invariant-loop-attempt
invariant-loop-attempt l = record {
  few : l.open + length l.attempt-iterator ≤ length l.self.attempts.entries;
  counted : l.open + count_some l.attempt-iterator ≡ count_some (values_of l.self.attempts.entries);
}
