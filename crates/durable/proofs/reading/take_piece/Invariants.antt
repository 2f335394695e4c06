use Rattle.std.proofs.Common.{◌≡◌, ◌+◌, ◌≤◌, ◌<◌, ◌++◌, List, length}
use Rattle.durable.specs.Items.{Item, item_blocks}
use Rattle.durable.specs.Reading.{AreRead}
use Rattle.durable.proofs.reading.take_piece.Given as goal

-- the items so far stand in front of what is left
abbrev pub invariant-loop-rest : goal.invariant-loop-rest
invariant-loop-rest l = record {
  place : l.recorded.gate + length l.rest ≡ l.initial.recorded.gate + length l.piece;
  some : 0 < length l.rest;
  shorter : length l.rest ≤ length l.piece;
  taken : (before : List Item) → AreRead l.cluster before l.initial.recorded → (more : List Item) × AreRead l.cluster (before ++ more) l.recorded × (l.piece ≡ item_blocks more ++ l.rest);
}

abbrev pub decreases-loop-rest : goal.decreases-loop-rest
decreases-loop-rest l = length l.rest
