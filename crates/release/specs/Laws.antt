-- What holds of these definitions, whatever the values.
use Rattle.std.specs.Prelude.{ℕ, suc, ◌≡◌, ◌⊎◌, ◌<◌, ◌≤◌, ◌↔◌, List, ◌++◌, None, Some, Ok, IsSome}
use Rattle.site_ids.specs.declared.Ticket.{Ticket}
use Rattle.command.specs.Action.{Order}
use Rattle.command.specs.Effective.{effective}
use Rattle.command.specs.Reading.{value_reading}
use Rattle.command.specs.Releases.{release_count, through}
use Rattle.content.specs.Answered.{applied}
use Rattle.content.specs.declared.applied.Applied.TheVariants.{Repeat}
use Rattle.release.specs.Page.{answer}
use Rattle.release.specs.Receipts.{receipt_of, IsNamedAt, IsReceipt}

-- ---- answers

-- the list of the next release begins with that of this one
abbrev pub ListBegins : Type 0
ListBegins =
    (values : List (List ℕ)) (n : ℕ)
    → (rest : List Order) × (through (effective values) (suc n) ≡ through (effective values) n ++ rest)

-- values that already have the release answer it in the same way, whatever values follow them
abbrev pub AnswerStays : Type 0
AnswerStays =
    (values more : List (List ℕ)) (n : ℕ) (path : List ℕ) → n ≤ release_count (effective values)
    → answer (values ++ more) n path ≡ answer values n path

-- further values take no release away
abbrev pub ReleasesStay : Type 0
ReleasesStay =
    (values more : List (List ℕ))
    → release_count (effective values) ≤ release_count (effective (values ++ more))

-- there is no answer if and only if there is no such release
abbrev pub AnswerIsNone : Type 0
AnswerIsNone =
    (values : List (List ℕ)) (n : ℕ) (path : List ℕ)
    → (answer values n path ≡ None) ↔ ((n ≡ 0) ⊎ (release_count (effective values) < n))

-- ---- receipts

-- a receipt is the place of the first command with the ticket
abbrev pub ReceiptIsFirst : Type 0
ReceiptIsFirst =
    (ticket : Ticket) (values : List (List ℕ)) (i : ℕ)
    → (receipt_of ticket values ≡ Some i) ↔ IsReceipt ticket values i

-- there is no receipt if and only if no place has a command with the ticket
abbrev pub ReceiptIsNone : Type 0
ReceiptIsNone =
    (ticket : Ticket) (values : List (List ℕ))
    → (receipt_of ticket values ≡ None) ↔ ((place : ℕ) → ¬ IsNamedAt ticket values place)

-- further values leave a receipt as it is
abbrev pub ReceiptStays : Type 0
ReceiptStays =
    (ticket : Ticket) (values more : List (List ℕ)) (i : ℕ) → receipt_of ticket values ≡ Some i
    → receipt_of ticket (values ++ more) ≡ Some i

-- a command is a repeat if and only if its ticket has a receipt
abbrev pub RepeatHasReceipt : Type 0
RepeatHasReceipt = (values : List (List ℕ)) (v : List ℕ) (order : Order) → value_reading v ≡ Ok order
    → (applied values v ≡ Repeat) ↔ IsSome (receipt_of order.ticket values)
