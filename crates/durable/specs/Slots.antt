-- What is kept of each instance.
use Rattle.std.specs.Prelude.{ℕ, List, Option, IsSome, unwrap_or}
use Rattle.acceptor.specs.declared.slot.Slot.{Slot}
use Rattle.durable.specs.declared.cells.Cell.{Cell}
use Rattle.durable.specs.Cells.{no_cell, found_in}
use Rattle.durable.specs.declared.slots.Slots.{Slots}

abbrev pub found_at : Slots → ℕ → Option Cell
found_at slots at = found_in slots.prefix.items slots.beyond.entries at

abbrev pub cell_at : Slots → ℕ → Cell
cell_at slots at = unwrap_or (found_at slots at) no_cell

abbrev pub slot_at : Slots → ℕ → Slot
slot_at slots at = (cell_at slots at).slot

-- the value learned at the instance, if one is kept
abbrev pub value_at : Slots → ℕ → Option (List ℕ)
value_at slots at = (cell_at slots at).learned

-- there is room for what is kept of the instance
abbrev pub IsThere : Slots → ℕ → Type 0
IsThere slots at = IsSome (found_at slots at)
