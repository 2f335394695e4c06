-- A stream that has its last response: what its client still sends is read and dropped, until it closes.
-- Moments are milliseconds since the server began.
use Rattle.std.specs.Prelude.{◌≡◌, ◌≢◌, ◌⊎◌, ◌<◌, ◌≤◌, ◌+◌, ◌-◌, ◌^◌, ◌||◌, ℕ, zero, suc, min, Bool, true}
use Rattle.std.specs.Prelude.{false, nat_le, nat_lt, List, [], ◌∷◌, ◌++◌, length, Option, Some, None}
use Rattle.std.specs.Io.KnownBytes.{Consumes, IsAtEnd, Keeps}
use Rattle.http_read.specs.Bytes.{End, end_of, HasFailed, IsSound}
use Rattle.http_read.specs.Counted.{inside, failed}
use Rattle.http_serve.specs.declared.outcomes.ReadOutcome.{ReadOutcome}
use Rattle.http_serve.specs.declared.outcomes.ReadOutcome.TheVariants.{Came, Nothing, Ended, Failed}
use Rattle.server_times.specs.declared.times.Times.{Times}
use Rattle.server_clients.specs.declared.linger.Linger.{Linger}
use Rattle.server_clients.specs.declared.linger.TheConstants.{DROPPED}
use Rattle.server_clients.specs.declared.parting.Parting.{Parting}
use Rattle.server_clients.specs.declared.parting.TheConstants.{READS}

-- ---- one stream

-- its time has passed, or its client sent too much
abbrev pub is_over : Times → Linger → Bool
is_over times linger = nat_le times.lingering linger.since || nat_le DROPPED linger.dropped

-- it is closed: its client closed, it failed, or it lingers too long
abbrev pub leaves : {T : Type 0} → Times → ℕ → Parting T → Bool
leaves times now parting =
    parting.ended || is_over times (record { since = now - parting.shut; dropped = parting.dropped })

-- its writing half has just been shut down
pub record IsShut {T : Type 0} (stream : T) (now : ℕ) (parting : Parting T) : Type 0 where
  pub stream_is : inside parting.stream ≡ stream
  pub sound : failed parting.stream ≡ 0
  pub shut : parting.shut ≡ now
  pub dropped : parting.dropped ≡ 0
  pub ended : parting.ended ≡ false

-- the bytes are counted. The count stays at the last value of its type
abbrev pub counted : ℕ → List ℕ → ℕ
counted dropped more = min (dropped + length more) (2 ^ 64 - 1)

-- What one reading did: bytes came, which are counted and dropped; or no byte was there; or its client
-- closed; or it failed
abbrev pub DropsBy : {T : Type 0} → ReadOutcome → End → Parting T → Parting T → Type 0
DropsBy Came reader old new =
    (more : List ℕ) × (0 < length more) × Consumes reader.before reader.after more × IsSound reader
    × (new ≡ record old { stream = new.stream; dropped = counted old.dropped more })
DropsBy Nothing reader old new =
    Keeps reader.before reader.after × HasFailed reader × (new ≡ record old { stream = new.stream })
DropsBy Ended reader old new = Keeps reader.before reader.after × IsAtEnd reader.after × IsSound reader
    × (new ≡ record old { stream = new.stream; ended = true })
DropsBy Failed reader old new =
    Keeps reader.before reader.after × HasFailed reader
    × (new ≡ record old { stream = new.stream; ended = true })

-- what one reading of its own stream did
abbrev pub Drops : {T : Type 0} → (T → Option (List ℕ)) → ReadOutcome → Parting T → Parting T → Type 0
Drops remaining outcome old new = DropsBy outcome (end_of remaining old.stream new.stream) old new

-- up to k readings, one after another, until one brings no bytes
abbrev pub AreDropped : {T : Type 0} → (T → Option (List ℕ)) → ℕ → Parting T → Parting T → Type 0
AreDropped remaining zero old new = new ≡ old
AreDropped {T} remaining (suc k) old new =
    ((mid : Parting T) × Drops remaining Came old mid × AreDropped remaining k mid new)
    ⊎ ((outcome : ReadOutcome) × (outcome ≢ Came) × Drops remaining outcome old new)

-- Its own stream is read, until nothing more is there or as often as a step may. `came` says whether bytes
-- came
abbrev pub IsDropped : {T : Type 0} → (T → Option (List ℕ)) → Bool → Parting T → Parting T → Type 0
IsDropped remaining came old new =
    AreDropped remaining READS old new × (came ≡ nat_lt old.dropped new.dropped)

-- ---- all of them

-- If there is no room, the stream that was shut down first is given up, and handed out
abbrev pub IsOutOf : {T : Type 0} → List (Parting T) → List (Parting T) → Option T → Type 0
IsOutOf old new None = (length old < 64) × (new ≡ old)
IsOutOf {T} old new (Some gone) =
    (64 ≤ length old) × (first : Parting T) × (old ≡ first ∷ new) × (gone ≡ inside first.stream)

-- A stream comes after the others. If there is no room, the first one goes for it
abbrev pub TakesIn : {T : Type 0} → T → ℕ → List (Parting T) → List (Parting T) → Option T → Type 0
TakesIn {T} stream now old new gone = (rest : List (Parting T)) × IsOutOf old rest gone
    × (last : Parting T) × IsShut stream now last × (new ≡ rest ++ last ∷ [])
