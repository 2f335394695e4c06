-- Which reply a request has.
use Rattle.std.specs.Prelude.{◌≡◌, ℕ, ◌⊎◌, false, ◌==◌, if◌then◌else◌, List, [], ◌∷◌, ◌++◌, codes, Option}
use Rattle.std.specs.Prelude.{Some, None, Ok, Err, ⊤}
use Rattle.std.specs.Fmt.{decimal}
use Rattle.command.specs.Written.{line_of}
use Rattle.release.specs.Page.{Page}
use Rattle.http_read.specs.Requests.{Asked}
use Rattle.http_serve.specs.declared.submission.Submission.TheVariants.{Queued, Already}
use Rattle.http_serve.specs.declared.submission.SubmitFault.{SubmitFault}
use Rattle.http_serve.specs.declared.submission.SubmitFault.TheVariants.{Command, Busy, Stopped, OutOfMemory}
use Rattle.http_serve.specs.Replies.{OwnLine, no_line, location, allow, Reply}
use Rattle.http_serve.specs.Paths.{Resource, Names, submission, receipt, newest, release, unknown, page}
use Rattle.http_serve.specs.Services.{Outcome, Offered, Submits}

-- a text, and a line feed after it
abbrev pub line : List ℕ → List ℕ
line text = text ++ 10 ∷ []

-- a plain response
abbrev pub plain : ℕ → List ℕ → Reply
plain status text = record { status = status; is_page = false; own = no_line; body = line text }

-- a request that is refused as it is read
abbrev pub refusal : ℕ → Reply
refusal status = plain status (
    if status == 413 then codes "too large"
    else (if status == 414 then codes "uri too long"
    else (if status == 431 then codes "head too large"
    else (if status == 501 then codes "not implemented"
    else codes "bad request"))))

-- the method isn't one of the resource's
abbrev pub wrong_method : List ℕ → Reply
wrong_method methods =
    record { status = 405; is_page = false; own = allow methods; body = line (codes "method not allowed") }

-- the receipt of a ticket
abbrev pub receipt_reply : Option ℕ → Reply
receipt_reply None = plain 404 (codes "unknown")
receipt_reply (Some n) = plain 200 (decimal n)

-- the line of a page that moved
abbrev pub moved_line : Option (List ℕ) → OwnLine
moved_line None = no_line
moved_line (Some path) = location path

-- the page of a release, or that there is no such release
abbrev pub page_reply : Option Page → Reply
page_reply None = plain 404 (codes "no release")
page_reply (Some p) =
    record { status = p.status; is_page = p.status == 200; own = moved_line p.location; body = p.body }

-- what GET and HEAD are answered at a resource
abbrev pub asked_reply : {S : Type 0} → Offered S → S → List ℕ → Resource → Reply
asked_reply service now path (submission ticket) = wrong_method (codes "POST")
asked_reply service now path (receipt ticket) = receipt_reply (service.receipt_is now ticket)
asked_reply service now path newest = plain 200 (decimal (service.newest_is now))
asked_reply service now path (release n rest) = page_reply (service.page_is now n rest)
asked_reply service now path unknown = plain 404 (codes "not found")
asked_reply service now path page =
    if service.newest_is now == 0 then page_reply None else page_reply
    (service.page_is now (service.newest_is now) path)

-- the answer to the outcome of a submission; none if an allocation failed
abbrev pub outcome_reply : Outcome → Option Reply
outcome_reply (Ok Queued) = Some (plain 202 (codes "queued"))
outcome_reply (Ok Already) = Some (plain 200 (codes "already"))
outcome_reply (Err (Command fault)) = Some (plain 422 (line_of fault))
outcome_reply (Err Busy) = Some (plain 503 (codes "busy"))
outcome_reply (Err Stopped) = Some (plain 503 (codes "stopped"))
outcome_reply (Err OutOfMemory) = None

-- what POST is answered at a resource, and the service as it leaves it: only a submission changes it
abbrev pub RepliesToPost : {S : Type 0} → Offered S → S → List ℕ → Resource → S → Reply → Type 0
RepliesToPost service now body (submission ticket) after reply =
    (done : Outcome) × Submits service now ticket body done after × (outcome_reply done ≡ Some reply)
RepliesToPost service now body unknown after reply = (after ≡ now) × (reply ≡ plain 404 (codes "not found"))
RepliesToPost service now body resource after reply =
    (after ≡ now) × (reply ≡ wrong_method (codes "GET, HEAD"))

-- if an allocation fails after a submission, this was its outcome: the words for the other outcomes were made
-- before
abbrev pub MayGoUntold : SubmitFault → Type 0
MayGoUntold (Command fault) = ⊤
MayGoUntold OutOfMemory = ⊤
MayGoUntold _ = ⊥

-- the submission of this text at a resource was refused, and nothing is answered
abbrev pub RefusesPost : {S : Type 0} → Offered S → S → List ℕ → Resource → S → Type 0
RefusesPost service now body (submission ticket) after =
    (fault : SubmitFault) × MayGoUntold fault × Submits service now ticket body (Err fault) after
RefusesPost service now body resource after = ⊥

-- the request is a submission, and was refused so
pub record Refuses {S : Type 0} (service : Offered S) (now : S) (request : Asked) (after : S) : Type 0 where
  pub posts : request.method ≡ codes "POST"
  pub resource : Resource
  pub names : Names request.path resource
  pub refused : RefusesPost service now request.body resource after

-- the reply to a request at a resource, and the service as it leaves it
abbrev pub RepliesTo : {S : Type 0} → Offered S → S → Asked → Resource → S → Reply → Type 0
RepliesTo service now request resource after reply =
    ((request.method ≡ codes "POST") × RepliesToPost service now request.body resource after reply)
    ⊎ (¬ (request.method ≡ codes "POST") × (after ≡ now)
    × (reply ≡ asked_reply service now request.path resource))
