-- What the log says of tickets: the ticket of a release, and a release that has its receipt and is not in
-- the log.
use Rattle.std.specs.Prelude.{ℕ, ◌-◌, ◌==◌, List, [], ◌∷◌, if◌then◌else◌, Option, Some, None}
use Rattle.std.specs.List.{fold}
use Rattle.editor_ledger.specs.Books.{Book}
use Rattle.editor_ledger.specs.declared.released.Released.{Released}

-- a release of the log has its own ticket, and those of its commands
abbrev pub less : ℕ → Released → ℕ
less left released = left - released.commands - 1

-- how many tickets up to the last release the log leaves out
abbrev pub tickets_left : ℕ → List Released → ℕ
tickets_left last log = fold less last log

-- how many commands the release shows that is not in the log
abbrev pub unlogged : Book → Option ℕ
unlogged book =
    if tickets_left book.last_release book.log == 0 then None else Some
    (tickets_left book.last_release book.log - 1)

-- the ticket of the last release of that number, if `left` tickets up to the last one are left for this
-- part of a log
abbrev pub ticket_in : ℕ → ℕ → ℕ → List Released → Option ℕ → Option ℕ
ticket_in release last left [] found = found
ticket_in release last left (r ∷ log) found =
    ticket_in release last (less left r) log
    (if r.release == release then Some (last - less left r) else found)

abbrev pub ticket_of : ℕ → Book → Option ℕ
ticket_of release book = ticket_in release book.last_release book.last_release book.log None
