-- The answer to a value after the values before it.
use Rattle.std.specs.Prelude.{ℕ, List, Result, Ok, Err, if◌then◌else◌}
use Rattle.command.specs.Action.{Action, release, Order}
use Rattle.command.specs.Effective.{has_ticket, commands_of}
use Rattle.command.specs.Reading.{value_reading}
use Rattle.command.specs.declared.fault.CommandFault.{CommandFault}
use Rattle.content.specs.declared.applied.Applied.{Applied}
use Rattle.content.specs.declared.applied.Applied.TheVariants.{Changed, Released, Repeat, NotACommand}

abbrev pub answered : Action → Applied
answered release = Released
answered _ = Changed

-- the answer, by the commands before the value and by what the value is read as
abbrev pub applied_after : List Order → Result Order CommandFault → Applied
applied_after orders (Ok order) = if has_ticket order.ticket orders then Repeat else answered order.action
applied_after orders (Err fault) = NotACommand

abbrev pub applied : List (List ℕ) → List ℕ → Applied
applied values v = applied_after (commands_of values) (value_reading v)
