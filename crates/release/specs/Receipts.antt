-- Receipts: the first place of the command with a ticket.
use Rattle.std.specs.Prelude.{ℕ, suc, ◌≡◌, ◌<◌, List, Bool, false, Option, Some, Result, Ok, Err, slice_get}
use Rattle.std.specs.List.{position_from}
use Rattle.site_ids.specs.declared.Ticket.{Ticket}
use Rattle.command.specs.Action.{Order}
use Rattle.command.specs.Effective.{is_same_ticket}
use Rattle.command.specs.Reading.{value_reading}
use Rattle.command.specs.declared.fault.CommandFault.{CommandFault}

abbrev pub has_that : Ticket → Result Order CommandFault → Bool
has_that ticket (Ok order) = is_same_ticket order.ticket ticket
has_that ticket (Err fault) = false

-- the value is a command with that ticket
abbrev pub is_named : Ticket → List ℕ → Bool
is_named ticket v = has_that ticket (value_reading v)

-- the first place of a command with that ticket. Places count from 1
abbrev pub receipt_of : Ticket → List (List ℕ) → Option ℕ
receipt_of ticket values = position_from (is_named ticket) 1 values

-- the value at a place is a command with that ticket
pub record IsNamedAt (ticket : Ticket) (values : List (List ℕ)) (place : ℕ) : Type 0 where
  pub value : List ℕ
  pub order : Order
  pub there : slice_get values place ≡ Some value
  pub reads : value_reading value ≡ Ok order
  pub named : order.ticket ≡ ticket

-- the value at place i is a command with that ticket, and no value before it is. Places count from 1
pub record IsReceipt (ticket : Ticket) (values : List (List ℕ)) (i : ℕ) : Type 0 where
  pub before : ℕ
  pub counted : i ≡ suc before
  pub there : IsNamedAt ticket values before
  pub first : (j : ℕ) → j < before → ¬ IsNamedAt ticket values j
