-- The cells of instances, in a list from instance 1 on and in a map.
use Rattle.std.specs.Prelude.{ℕ, zero, suc, List, slice_get, Option, Some, None}
use Rattle.std.specs.BTreeMap.{is_at}
use Rattle.std.specs.Map.{lookup}
use Rattle.std.specs.Option.{option_or}
use Rattle.std.specs.Ordering.{nat_cmp}
use Rattle.acceptor.specs.declared.slot.Slot.{Slot}
use Rattle.acceptor.specs.Steps.{with_promise, with_vote}
use Rattle.durable.specs.declared.cells.Cell.{Cell}
use Rattle.durable.specs.declared.cells.Change.{Change}
use Rattle.durable.specs.declared.cells.Change.TheVariants.{Promise, Vote, Learn}

abbrev pub no_slot : Slot
no_slot = record { promised = None; vote = None }

abbrev pub no_cell : Cell
no_cell = record { slot = no_slot; learned = None }

-- a cell after a change
abbrev pub changed : Cell → Change → Cell
changed cell (Promise ballot) = record cell { slot = with_promise cell.slot ballot }
changed cell (Vote vote) = record cell { slot = with_vote vote.ballot vote.value }
changed cell (Learn value) = record cell { learned = Some value }

-- the cell of an instance, if it has one
abbrev pub found_in : List Cell → List (ℕ × Cell) → ℕ → Option Cell
found_in prefix beyond zero = None
found_in prefix beyond (suc k) = option_or (slice_get prefix k) (lookup (is_at (nat_cmp (suc k))) beyond)
