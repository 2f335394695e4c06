-- What a step does for its clients: each has its turn, in order. In a turn all requests are answered that are
-- there whole, until one is left, or 16 KB wait to be written.
use Rattle.std.specs.Prelude.{◌≡◌, ◌⊎◌, ◌<◌, ◌-◌, Bool, true, false, ℕ, zero, suc, List, length, get_or, None}
use Rattle.http_serve.specs.Fronts.{AsksReceipt}
use Rattle.http_serve.specs.ConnectionSteps.{IsAnswered, MayAnswer, Waits}
use Rattle.http_serve.specs.Services.{Offered}
use Rattle.http_serve.specs.declared.connection.Connection.{Connection}
use Rattle.site_ids.specs.declared.Ticket.{Ticket}
use Rattle.server_times.specs.declared.times.Times.{Times}
use Rattle.server_clients.specs.declared.seat.Seat.{Seat}

-- The next request is left: it asks for a receipt that is not there yet, and its client sent the last bytes
-- not long ago
pub record IsLeft {S T : Type 0} (service : Offered S) (times : Times) (time : ℕ) (now : S)
    (seat : Seat T) : Type 0 where
  pub ticket : Ticket
  pub asks : AsksReceipt seat.connection ticket
  pub unknown : service.receipt_is now ticket ≡ None
  pub soon : time - seat.came < times.receipts

-- the next request has its response now, and is not left. What carries the client's bytes stays with it
pub record IsOneMore {S T : Type 0} (service : Offered S) (times : Times) (time : ℕ) (now after : S)
    (old new : Seat T) : Type 0 where
  pub due : ¬ (IsLeft service times time now old)
  pub may : MayAnswer old.connection
  pub answered : IsAnswered service now after old.connection new.connection
  pub carried : new ≡ record old { connection = new.connection }

-- k requests have their responses, one after another, each with the service as the one before left it
abbrev pub AreMore : {S T : Type 0} → Offered S → Times → ℕ → ℕ → S → S → Seat T → Seat T → Type 0
AreMore service times time zero now after old new = (after ≡ now) × (new ≡ old)
AreMore {S} {T} service times time (suc k) now after old new =
    (mid : S) × (between : Seat T) × AreMore service times time k now mid old between
    × IsOneMore service times time mid after between new

-- no request is answered: what came is not a whole one; or too many bytes wait, or the last response was made
abbrev pub NoneAnswered : Connection → Connection → Type 0
NoneAnswered old new = (MayAnswer old × Waits old new) ⊎ ((¬ (MayAnswer old)) × (new ≡ old))

-- no further request is answered now: the next one is left, or none is answered
abbrev pub IsAtEnd : {S T : Type 0} → Offered S → Times → ℕ → S → Seat T → Seat T → Type 0
IsAtEnd service times time now old new =
    (IsLeft service times time now old × (new ≡ old))
    ⊎ ((¬ (IsLeft service times time now old)) × NoneAnswered old.connection new.connection
    × (new ≡ record old { connection = new.connection }))

-- one more request is answered, or no further one is
abbrev pub MayBeOneMore : {S T : Type 0} → Offered S → Times → ℕ → Bool → S → S → Seat T → Seat T → Type 0
MayBeOneMore service times time true now after old new = IsOneMore service times time now after old new
MayBeOneMore service times time false now after old new =
    (after ≡ now) × IsAtEnd service times time now old new

-- A client's turn: its requests are answered, one after another, until no further one is
abbrev pub IsTurn : {S T : Type 0} → Offered S → Times → ℕ → S → S → Seat T → Seat T → Type 0
IsTurn {S} {T} service times time now after old new =
    (k : ℕ) × (last : Seat T) × AreMore service times time k now after old last
    × IsAtEnd service times time after last new

-- the first k have their turns, each with the service as the one before left it
abbrev pub AreTurns : {S T : Type 0} → Offered S → Times → ℕ → ℕ → S → S → List (Seat T) → List (Seat T)
    → Type 0
AreTurns service times time zero now after old new = after ≡ now
AreTurns {S} {T} service times time (suc k) now after old new =
    (mid : S) × AreTurns service times time k now mid old new
    × ((none : Seat T) → IsTurn service times time mid after (get_or old k none) (get_or new k none))

-- All clients have their turns, at this time. No client comes or goes meanwhile
pub record AreAnswered {S T : Type 0} (service : Offered S) (times : Times) (time : ℕ) (now after : S)
    (old new : List (Seat T)) : Type 0 where
  pub as_many : length new ≡ length old
  pub turns : AreTurns service times time (length old) now after old new

-- the client has more responses than before, or as many
abbrev pub CountsAnswered : {T : Type 0} → Bool → Seat T → Seat T → Type 0
CountsAnswered true old new = old.connection.answered < new.connection.answered
CountsAnswered false old new = new.connection.answered ≡ old.connection.answered

-- one of the first k clients has more responses, or none has
abbrev pub TellsAnswered : {T : Type 0} → Bool → ℕ → List (Seat T) → List (Seat T) → Type 0
TellsAnswered {T} true k old new = (i : ℕ) × (i < k)
    × ((none : Seat T)
    → (get_or old i none).connection.answered < (get_or new i none).connection.answered)
TellsAnswered {T} false k old new = (i : ℕ) → i < k → (none : Seat T)
    → (get_or new i none).connection.answered ≡ (get_or old i none).connection.answered
