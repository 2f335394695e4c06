-- Which clients take a seat, which leave, and which go for another one. Moments are milliseconds since the
-- server began.
use Rattle.std.specs.Prelude.{◌≡◌, ◌⊎◌, ◌<◌, ◌≤◌, ◌-◌, ℕ, List, [], ◌∷◌, ◌++◌, length, get_or, swap_remove}
use Rattle.std.specs.Prelude.{nat_le, if◌then◌else◌, Option, Some, None}
use Rattle.http_read.specs.Counted.{inside, failed}
use Rattle.http_serve.specs.ConnectionSteps.{owed, IsNew, IsDone}
use Rattle.server_times.specs.declared.times.Times.{Times}
use Rattle.server_clients.specs.Staying.{IsTooLong}
use Rattle.server_clients.specs.declared.seat.Seat.{Seat}
use Rattle.server_clients.specs.declared.stay.Stay.{Stay}

-- a client that has just come, by this stream
pub record IsFresh {T : Type 0} (stream : T) (now : ℕ) (seat : Seat T) : Type 0 where
  pub stream_is : inside seat.stream ≡ stream
  pub sound : failed seat.stream ≡ 0
  pub new : IsNew seat.connection
  pub moved : seat.moved ≡ now
  pub came : seat.came ≡ now
  pub begun : seat.begun ≡ None

-- what it does, and for how long
abbrev busy_of : ℕ → Option ℕ → Option ℕ
busy_of now None = None
busy_of now (Some begun) = Some (now - begun)

abbrev pub stay_of : {T : Type 0} → ℕ → Seat T → Stay
stay_of now seat = record { still = now - seat.moved; busy = busy_of now seat.begun }

-- it is to be closed: its connection is done, or it stays too long
abbrev pub IsLeaving : {T : Type 0} → Times → ℕ → Seat T → Type 0
IsLeaving times now seat = IsDone seat.connection ⊎ IsTooLong (stay_of now seat) times

-- its request keeps others from a seat for longer than it may
abbrev pub IsSlow : {T : Type 0} → Times → ℕ → Seat T → Type 0
IsSlow times now seat = (begun : ℕ) × (seat.begun ≡ Some begun) × (times.keeps_seat ≤ now - begun)

-- it may go for another client: it is owed nothing, or is slow
abbrev pub MayGo : {T : Type 0} → Times → ℕ → Seat T → Type 0
MayGo times now seat = (length (owed seat.connection) ≡ 0) ⊎ IsSlow times now seat

-- the seat that was silent longer: the one found so far, with the moment since when it was silent, or the
-- next one; the one found if both were silent equally long
abbrev pub earlier : Option (ℕ × ℕ) → ℕ → Option ℕ → Option (ℕ × ℕ)
earlier found i None = found
earlier None i (Some since) = Some (i, since)
earlier (Some (at, least)) i (Some since) = if nat_le least since then Some (at, least) else Some (i, since)

-- the seat that goes first: it may go, no seat that may go was silent for longer, and none before it was
-- silent as long
pub record IsFirstToGo {T : Type 0} (times : Times) (now : ℕ) (seats : List (Seat T)) (i : ℕ) : Type 0 where
  pub below : i < length seats
  pub may : (none : Seat T) → MayGo times now (get_or seats i none)
  pub longest : (j : ℕ) → j < length seats → (none : Seat T) → MayGo times now (get_or seats j none)
      → (get_or seats i none).moved ≤ (get_or seats j none).moved
  pub first : (j : ℕ) → j < i → (none : Seat T) → MayGo times now (get_or seats j none)
      → (get_or seats i none).moved < (get_or seats j none).moved

-- no seat may go
abbrev pub NoneGoes : {T : Type 0} → Times → ℕ → List (Seat T) → Type 0
NoneGoes {T} times now seats = (i : ℕ) → i < length seats → (none : Seat T)
    → ¬ (MayGo times now (get_or seats i none))

-- seat i is given up, and its stream is handed out. The last seat takes its place
pub record HandsOut {T : Type 0} (old new : List (Seat T)) (i : ℕ) (stream : T) : Type 0 where
  pub seat : Seat T
  pub is : seat ≡ get_or old i seat
  pub stream_is : stream ≡ inside seat.stream
  pub left : new ≡ swap_remove old i seat

-- A client gets a seat if one is free: the last one. Otherwise its stream is returned
abbrev pub IsAdmitted : {T : Type 0} → T → ℕ → List (Seat T) → List (Seat T) → Option T → Type 0
IsAdmitted {T} stream now old new None =
    (length old < 64) × (seat : Seat T) × IsFresh stream now seat × (new ≡ old ++ seat ∷ [])
IsAdmitted stream now old new (Some back) = (64 ≤ length old) × (back ≡ stream) × (new ≡ old)

-- If all seats are taken, the one that goes first is given up. No seat is given up if one is free, or if none
-- may go
abbrev pub MakesRoom : {T : Type 0} → Times → ℕ → List (Seat T) → List (Seat T) → Option T → Type 0
MakesRoom times now old new (Some stream) =
    (64 ≤ length old) × (i : ℕ) × IsFirstToGo times now old i × HandsOut old new i stream
MakesRoom times now old new None = (new ≡ old) × ((length old < 64) ⊎ NoneGoes times now old)

-- none of the first k is to be closed
abbrev pub StayBefore : {T : Type 0} → ℕ → Times → ℕ → List (Seat T) → Type 0
StayBefore {T} k times now seats =
    (j : ℕ) → j < k → (none : Seat T) → ¬ (IsLeaving times now (get_or seats j none))

-- The first seat that is to be closed is given up, if there is one
abbrev pub Leaves : {T : Type 0} → Times → ℕ → List (Seat T) → List (Seat T) → Option T → Type 0
Leaves {T} times now old new (Some stream) =
    (i : ℕ) × (i < length old) × ((none : Seat T) → IsLeaving times now (get_or old i none))
    × StayBefore i times now old × HandsOut old new i stream
Leaves times now old new None = (new ≡ old) × StayBefore (length old) times now old
