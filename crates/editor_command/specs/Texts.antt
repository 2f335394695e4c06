-- Texts that are commands.
use Rattle.std.specs.Prelude.{◌≡◌, ℕ, List, Ok, Err, string_bytes}
use Rattle.site_ids.specs.declared.Ticket.{Ticket}
use Rattle.command.specs.Action.{Order}
use Rattle.command.specs.Reading.{value_reading}
use Rattle.command.specs.Written.{value_of, line_of}
use Rattle.editor_command.specs.declared.refusal.Refusal.{Refusal}

-- the ticket of nobody, under which texts are judged
abbrev pub nobodys : Ticket
nobodys = record { editor = 0; number = 0 }

-- the text is a command
pub record IsCommandText (text : List ℕ) : Type 0 where
  pub order : Order
  pub reads : value_reading (value_of nobodys text) ≡ Ok order

-- the text has the fault of the refusal, whose line is that fault's
pub record IsRefused (text : List ℕ) (refusal : Refusal) : Type 0 where
  pub reads : value_reading (value_of nobodys text) ≡ Err refusal.fault
  pub told : string_bytes refusal.line ≡ line_of refusal.fault
