-- Clients' bytes: what one reading and one writing do to a seat, and to all of them. Moments are milliseconds
-- since the server began.
use Rattle.std.specs.Prelude.{◌≡◌, ◌⊎◌, ◌<◌, ◌≤◌, ◌-◌, ℕ, Bool, true, false, List, length, get_or, Option}
use Rattle.std.specs.Prelude.{Some}
use Rattle.std.specs.Prelude.{None, unwrap_or}
use Rattle.http_read.specs.Bytes.{end_of}
use Rattle.http_serve.specs.ConnectionSteps.{owed, IsIdle, MayRead, Reads, Writes}
use Rattle.http_serve.specs.Fronts.{HasAsked}
use Rattle.http_serve.specs.declared.outcomes.ReadOutcome.{ReadOutcome}
use Rattle.http_serve.specs.declared.outcomes.ReadOutcome.TheVariants as read_outcome
use Rattle.http_serve.specs.declared.outcomes.WriteOutcome.{WriteOutcome}
use Rattle.http_serve.specs.declared.outcomes.WriteOutcome.TheVariants as write_outcome
use Rattle.server_times.specs.declared.times.Times.{Times}
use Rattle.server_clients.specs.declared.seat.Seat.{Seat}

-- ---- one seat

-- it may be read: its client may send more now, and all that came asks for no receipt
abbrev pub MayBeRead : {T : Type 0} → Seat T → Type 0
MayBeRead seat = MayRead seat.connection × ¬ (HasAsked seat.connection)

-- whether anything came: bytes, the end of what the client sends, or a failure
abbrev pub has_come : ReadOutcome → Bool
has_come read_outcome.Nothing = false
has_come _ = true

-- its times stay
abbrev pub SameTimes : {T : Type 0} → Seat T → Seat T → Type 0
SameTimes old new = (new.moved ≡ old.moved) × (new.came ≡ old.came) × (new.begun ≡ old.begun)

-- its times after a reading: bytes that came begin a request if none is under way
abbrev pub TimesRead : {T : Type 0} → ReadOutcome → ℕ → Seat T → Seat T → Type 0
TimesRead read_outcome.Came now old new =
    (new.moved ≡ now) × (new.came ≡ now) × (new.begun ≡ Some (unwrap_or old.begun now))
TimesRead _ now old new = SameTimes old new

-- Its own stream is read once into its own connection, if it may be read. `came` says whether anything came
abbrev pub IsReadOnce : {T : Type 0} → (T → Option (List ℕ)) → ℕ → Bool → Seat T → Seat T → Type 0
IsReadOnce remaining now came old new =
    (¬ (MayBeRead old) × (came ≡ false) × (new ≡ old))
    ⊎ (MayBeRead old × (outcome : ReadOutcome)
    × Reads outcome old.connection new.connection (end_of remaining old.stream new.stream)
    × TimesRead outcome now old new × (came ≡ has_come outcome))

-- whether anything went: bytes, or the writer failed
abbrev pub has_gone : WriteOutcome → Bool
has_gone write_outcome.Nothing = false
has_gone _ = true

-- its times after a writing. If all is written, its request is over, and the next one has begun if a part of
-- it is there
abbrev pub TimesWritten : {T : Type 0} → WriteOutcome → ℕ → Seat T → Seat T → Type 0
TimesWritten write_outcome.Written now old new = (new.moved ≡ now) × (new.came ≡ old.came)
    × (0 < length (owed new.connection) → new.begun ≡ old.begun)
    × (length (owed new.connection) ≡ 0 → IsIdle new.connection → new.begun ≡ None)
    × (length (owed new.connection) ≡ 0 → ¬ (IsIdle new.connection) → new.begun ≡ Some now)
TimesWritten _ now old new = SameTimes old new

-- What its connection owes is held back: the next request is there whole and asks for a receipt, and its
-- client sent the last bytes not long ago. A step answers each such request unless it is left, so it is left
pub record IsHeld {T : Type 0} (times : Times) (now : ℕ) (seat : Seat T) : Type 0 where
  pub asks : HasAsked seat.connection
  pub soon : now - seat.came < times.holds

-- What its own connection owes is written to its own stream once, if it owes anything and that is not held
-- back. `went` says whether anything went
abbrev pub IsWrittenOnce : {T : Type 0} → (T → Option (List ℕ)) → Times → ℕ → Bool → Seat T → Seat T → Type 0
IsWrittenOnce contents times now went old new =
    (((length (owed old.connection) ≡ 0) ⊎ IsHeld times now old) × (went ≡ false) × (new ≡ old))
    ⊎ ((0 < length (owed old.connection)) × (¬ (IsHeld times now old)) × (outcome : WriteOutcome)
    × Writes outcome old.connection new.connection (end_of contents old.stream new.stream)
    × TimesWritten outcome now old new × (went ≡ has_gone outcome))

-- ---- all of them

-- One thing is done once to each of the first k clients, and to no other. `did` says whether anything came of
-- it at one of them
pub record AreDone {C : Type 0} (Once : Bool → C → C → Type 0) (k : ℕ) (did : Bool) (old new : List C)
    : Type 0 where
  pub as_many : length new ≡ length old
  pub each : (i : ℕ) → i < k → (none : C)
      → (one : Bool) × Once one (get_or old i none) (get_or new i none) × (one ≡ true → did ≡ true)
  pub some : did ≡ true → (i : ℕ) × (i < k)
      × ((none : C) → Once true (get_or old i none) (get_or new i none))
  pub others : (i : ℕ) → k ≤ i → (none : C) → get_or new i none ≡ get_or old i none
