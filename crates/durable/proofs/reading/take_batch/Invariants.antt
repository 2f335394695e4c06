use Rattle.std.proofs.Common.{◌≡◌, ◌+◌, ◌++◌, List, length}
use Rattle.durable.specs.Entries.{Entry}
use Rattle.durable.specs.Spelling.{blocks}
use Rattle.durable.specs.Reading.{AreBefore}
use Rattle.durable.proofs.reading.take_batch.Given as goal

-- the entries so far stand in front of what is left
abbrev pub invariant-loop-rest : goal.invariant-loop-rest
invariant-loop-rest l = record {
  place : l.recorded.gate + length l.rest ≡ l.initial.recorded.gate + length l.blocks;
  taken : (entries : List Entry) × (l.blocks ≡ blocks entries ++ l.rest) × ((before : List Entry) → AreBefore l.cluster before l.initial.recorded → AreBefore l.cluster (before ++ entries) l.recorded);
}

abbrev pub decreases-loop-rest : goal.decreases-loop-rest
decreases-loop-rest l = length l.rest
