-- A client's connection, without what carries its bytes.
use Rattle.std.specs.Prelude.{◌≡◌, ℕ, suc, ◌<◌, ◌⊎◌, Bool, true, false, if◌then◌else◌, List, [], ◌++◌, length}
use Rattle.std.specs.Prelude.{Some, None}
use Rattle.std.specs.Io.KnownBytes.{Keeps, Consumes, IsAtEnd}
use Rattle.http_read.specs.declared.progress.Progress.TheVariants.{Head}
use Rattle.http_read.specs.Bytes.{End, IsSound, HasFailed, IsWritten}
use Rattle.http_read.specs.Progress as reading
use Rattle.http_read.specs.Progress.{Resumes}
use Rattle.http_serve.specs.declared.connection.Connection.{Connection}
use Rattle.http_serve.specs.declared.connection.ConnectionState.{ConnectionState}
use Rattle.http_serve.specs.declared.connection.ConnectionState.TheVariants.{Open, Ended, Closing, Failed}
use Rattle.http_serve.specs.declared.outcomes.ReadOutcome.{ReadOutcome}
use Rattle.http_serve.specs.declared.outcomes.ReadOutcome.TheVariants as read_outcome
use Rattle.http_serve.specs.declared.outcomes.WriteOutcome.{WriteOutcome}
use Rattle.http_serve.specs.declared.outcomes.WriteOutcome.TheVariants as write_outcome
use Rattle.http_serve.specs.declared.replies.Message.{Message}
use Rattle.http_serve.specs.declared.messages.TheConstants.{REQUESTS}
use Rattle.http_serve.specs.declared.outbox.TheConstants.{WAITING}
use Rattle.http_serve.specs.Connections.{MayRefuse}
use Rattle.http_serve.specs.Exchanges.{Responds}
use Rattle.http_serve.specs.Services.{Offered}

-- the bytes that wait to be written: the responses to the requests that were answered, in order, without what
-- of them is written
abbrev pub owed : Connection → List ℕ
owed connection = connection.outbox

-- how many requests were answered
abbrev pub answered : Connection → ℕ
answered connection = connection.answered

-- This is what is left of all that came, without what the responses so far have used: what is used of the
-- next request, and what is held.
abbrev pub HasLeft : Connection → List ℕ → Type 0
HasLeft connection left =
    (used : List ℕ) × Resumes connection.progress used × (left ≡ used ++ connection.inbox)

-- requests are answered: no last response was made, and no call failed
abbrev pub is_going : ConnectionState → Bool
is_going Open = true
is_going Ended = true
is_going Closing = false
is_going Failed = false

-- nothing came and nothing was answered yet
pub record IsNew (connection : Connection) : Type 0 where
  pub unread : HasLeft connection []
  pub unwritten : connection.outbox ≡ []
  pub none : connection.answered ≡ 0
  pub state : connection.state ≡ Open

-- bytes may be read: the client sends more, no last response was made, and there is room in 16 KB
pub record MayRead (connection : Connection) : Type 0 where
  pub state : connection.state ≡ Open
  pub room : length connection.inbox < 16384

-- the next request may be answered: no last response was made, and fewer than 16 KB wait to be written
pub record MayAnswer (connection : Connection) : Type 0 where
  pub going : is_going connection.state ≡ true
  pub room : length connection.outbox < WAITING
  pub few : connection.answered < REQUESTS

-- nothing of a request is used or held
pub record IsIdle (connection : Connection) : Type 0 where
  pub unused : reading.awaited_of connection.progress ≡ None
  pub empty : length connection.inbox ≡ 0

-- a call failed; or the last response was made, and is written whole
abbrev pub IsDone : Connection → Type 0
IsDone connection =
    (connection.state ≡ Failed) ⊎ ((connection.state ≡ Closing) × (length connection.outbox ≡ 0))

-- a call failed: what waits is given up
abbrev pub failed_connection : Connection → Connection
failed_connection connection = record connection { outbox = []; state = Failed }

-- What one reading did: bytes came, which are held after the others; or none was there; or the client sends
-- no more; or the reader failed.
abbrev pub Reads : ReadOutcome → Connection → Connection → End → Type 0
Reads read_outcome.Came old new reader =
    (more : List ℕ) × (0 < length more) × Consumes reader.before reader.after more × IsSound reader
    × (new ≡ record old { inbox = old.inbox ++ more })
Reads read_outcome.Nothing old new reader = Keeps reader.before reader.after × HasFailed reader × (new ≡ old)
Reads read_outcome.Ended old new reader =
    Keeps reader.before reader.after × IsAtEnd reader.after × IsSound reader
    × (new ≡ record old { state = Ended })
Reads read_outcome.Failed old new reader =
    Keeps reader.before reader.after × HasFailed reader × (new ≡ failed_connection old)

-- What one writing did: a beginning of what waited was written, and the rest waits; the writer took none yet;
-- or it failed.
abbrev pub Writes : WriteOutcome → Connection → Connection → End → Type 0
Writes write_outcome.Written old new writer =
    (front : List ℕ) × (0 < length front) × (old.outbox ≡ front ++ new.outbox) × IsWritten writer front
    × (new ≡ record old { outbox = new.outbox })
Writes write_outcome.Nothing old new writer =
    Keeps writer.before writer.after × HasFailed writer × (new ≡ old)
Writes write_outcome.Failed old new writer =
    Keeps writer.before writer.after × HasFailed writer × (new ≡ failed_connection old)

-- the response waits to be written, after those that wait. After a last one the connection is to be closed
abbrev pub with_response : Connection → Message → Connection
with_response connection m = record connection {
  outbox = connection.outbox ++ m.bytes.items;
  answered = suc connection.answered;
  state = if m.stays then connection.state else Closing;
}

-- a response to the request at the front of what is left: it waits now, after those that wait, and what
-- follows the request is left
pub record IsAnswered {S : Type 0} (service : Offered S) (now after : S) (old new : Connection) : Type 0 where
  pub stays : Bool
  pub text : List ℕ
  pub response : (used : List ℕ) → Resumes old.progress used
      → Responds service (suc old.answered) now (used ++ old.inbox) (Some new.inbox) after stays text
  pub waits : new.outbox ≡ old.outbox ++ text
  pub next : new.progress ≡ Head
  pub counted : new.answered ≡ suc old.answered
  pub state : new.state ≡ (if stays then old.state else Closing)

-- how a connection goes on without a whole request. If the client sends no more, it is closed
abbrev pub waiting : ConnectionState → ConnectionState
waiting Open = Open
waiting Ended = Closing
waiting Closing = Closing
waiting Failed = Failed

-- what came of the next request is not a whole one
pub record Waits (old new : Connection) : Type 0 where
  pub waits : reading.Waits old.progress new.progress old.inbox new.inbox
  pub state : new.state ≡ waiting old.state
  pub outbox : new.outbox ≡ old.outbox
  pub answered : new.answered ≡ old.answered

-- an allocation failed for the next response: it was the last request
pub record GivesUp {S : Type 0} (service : Offered S) (now after : S) (old new : Connection) : Type 0 where
  pub refused : (used : List ℕ) → Resumes old.progress used → MayRefuse service (used ++ old.inbox) now after
  pub state : new.state ≡ Closing
  pub outbox : new.outbox ≡ old.outbox
  pub answered : new.answered ≡ old.answered
