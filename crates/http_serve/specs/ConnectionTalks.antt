-- What passed on a connection: all that came on it, and all that was written.
use Rattle.std.specs.Prelude.{◌≡◌, ℕ, true, false, List, [], ◌++◌}
use Rattle.http_serve.specs.declared.connection.Connection.{Connection}
use Rattle.http_serve.specs.ConnectionSteps.{HasLeft, IsNew, IsAnswered, Waits}
use Rattle.http_serve.specs.Services.{Offered}
use Rattle.http_serve.specs.Talks.{IsOpenTalk, IsWholeTalk}

-- exchanges were made, of whose responses this was written and the rest waits
abbrev pub HasTalked : {S : Type 0} → Offered S → Connection → List ℕ → List ℕ → Type 0
HasTalked service connection came said =
    (left : List ℕ) × HasLeft connection left
    × IsOpenTalk service came left (said ++ connection.outbox) connection.answered

-- the same, and the last response was made
abbrev pub HasClosed : {S : Type 0} → Offered S → Connection → List ℕ → List ℕ → Type 0
HasClosed service connection came said = IsWholeTalk service came (said ++ connection.outbox)

-- What the calls do to a connection, over all that passed on it.
pub record AreTalks {S : Type 0} (service : Offered S) : Type 0 where
  -- on a new one nothing passed
  pub begins : (connection : Connection) → IsNew connection → HasTalked service connection [] []
  -- more bytes came
  pub heard : (connection : Connection) (came said more : List ℕ) → HasTalked service connection came said
      → HasTalked service (record connection { inbox = connection.inbox ++ more }) (came ++ more) said
  -- one response more was made
  pub answered : (old new : Connection) (now after : S) (came said : List ℕ) → HasTalked service old came said
      → (a : IsAnswered service now after old new)
      → (a.stays ≡ true → HasTalked service new came said)
      × (a.stays ≡ false → HasClosed service new came said)
  -- no whole request was there
  pub waited : (old new : Connection) (came said : List ℕ) → HasTalked service old came said → Waits old new
      → HasTalked service new came said
  -- a part of what waited was written
  pub told : (old : Connection) (came said front rest : List ℕ) → old.outbox ≡ front ++ rest
      → HasTalked service old came said
      → HasTalked service (record old { outbox = rest }) came (said ++ front)
  pub told_last : (old : Connection) (came said front rest : List ℕ) → old.outbox ≡ front ++ rest
      → HasClosed service old came said
      → HasClosed service (record old { outbox = rest }) came (said ++ front)
