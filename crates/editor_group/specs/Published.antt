-- The ticket by which a group says how far a folder came there.
use Rattle.std.specs.Prelude.{◌==◌, if◌then◌else◌, Option, Some, None}
use Rattle.editor_ledger.specs.Books.{Book}
use Rattle.editor_plan.specs.Standings.{last_ticket}
use Rattle.site_ids.specs.declared.Ticket.{Ticket}

-- the last ticket that has its receipt; 0 says that none was given
abbrev pub ticket_of : Book → Option Ticket
ticket_of book =
    if last_ticket book == 0 then None else Some (record { editor = book.editor; number = last_ticket book })
