-- The commands of a list of values, and those that count.
use Rattle.std.specs.Prelude.{ℕ, List, ◌==◌, ◌&&◌, not, Bool, Option, Some, None, Result, Ok, Err, map}
use Rattle.std.specs.Prelude.{filter, take}
use Rattle.std.specs.List.{filter_map, list_any, enumerate_from}
use Rattle.site_ids.specs.declared.Ticket.{Ticket}
use Rattle.command.specs.Action.{Order}
use Rattle.command.specs.Reading.{value_reading}
use Rattle.command.specs.declared.fault.CommandFault.{CommandFault}

abbrev pub if_command : Result Order CommandFault → Option Order
if_command (Ok order) = Some order
if_command (Err fault) = None

-- the commands among the values, in order
abbrev pub commands_of : List (List ℕ) → List Order
commands_of values = filter_map (λ v. if_command (value_reading v)) values

abbrev pub is_same_ticket : Ticket → Ticket → Bool
is_same_ticket a b = (a.editor == b.editor) && (a.number == b.number)

abbrev pub has_ticket : Ticket → List Order → Bool
has_ticket ticket orders = list_any (λ o. is_same_ticket o.ticket ticket) orders

-- no command before this place has its ticket
abbrev pub is_first : List Order → ℕ × Order → Bool
is_first orders p = not (has_ticket p.1.ticket (take p.0 orders))

-- the commands whose ticket no earlier one has
abbrev pub firsts : List Order → List Order
firsts orders = map (λ p. p.1) (filter (is_first orders) (enumerate_from 0 orders))

-- the effective commands of a list of values, in order
abbrev pub effective : List (List ℕ) → List Order
effective values = firsts (commands_of values)
