use Rattle.std.specs.Prelude.{◌↔◌}
use Rattle.std.specs.Map.{values_of}
use Rattle.proposer.proofs.Trying.{Tries}
use Rattle.proposer.proofs.proposer.Proposer.tries.Given as goal

-- one of those to come has it if one of all has
abbrev pub invariant-loop-attempt : goal.invariant-loop-attempt
invariant-loop-attempt l = record {
  left : Tries l.attempt-iterator l.value ↔ Tries (values_of l.self.attempts.entries) l.value;
}
