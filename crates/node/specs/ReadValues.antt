-- A command of the log that was read.
use Rattle.std.specs.Prelude.{ℕ, ◌≡◌, List, Ok}
use Rattle.command.specs.Action.{Order}
use Rattle.command.specs.Reading.{value_reading}
use Rattle.command.specs.Standing.{StandsFor}
use Rattle.node.specs.declared.read_value.ReadValue.TheInside.{Inside}

abbrev pub value_read : Inside → List ℕ
value_read r = r.value

-- the command is what the value is read as
abbrev pub IsRead : Inside → Type 0
IsRead r = (order : Order) × (value_reading r.value ≡ Ok order) × StandsFor r.command order
