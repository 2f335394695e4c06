-- What a server asks of the service behind it.
use Rattle.std.specs.Prelude.{◌≡◌, ◌⊎◌, ℕ, zero, suc, List, Option, Result, OnErr, ⊤}
use Rattle.site_ids.specs.declared.Ticket.{Ticket}
use Rattle.command.specs.Written.{HasLine}
use Rattle.release.specs.Page.{Page}
use Rattle.http_serve.specs.declared.submission.Submission.{Submission}
use Rattle.http_serve.specs.declared.submission.SubmitFault.{SubmitFault}
use Rattle.http_serve.specs.declared.submission.SubmitFault.TheVariants.{Command}

-- what came of a submission
abbrev pub Outcome : Type 0
Outcome = Result Submission SubmitFault

-- A service in all its states: its newest release, the page of a release at a path, the receipt of a ticket,
-- which outcome a submission may have, with the state that it leaves, and what leaves all that it shows and
-- holds as it was.
pub record Offered (S : Type 0) : Type 1 where
  pub newest_is : S → ℕ
  pub page_is : S → ℕ → List ℕ → Option Page
  pub receipt_is : S → Ticket → Option ℕ
  pub takes : S → Ticket → List ℕ → Outcome → S → Type 0
  pub stays : S → S → Type 0

-- the service was given this submission, with this outcome, and is left so; a refused one leaves what it
-- shows and holds
pub record Submits {S : Type 0} (service : Offered S) (now : S) (ticket : Ticket) (text : List ℕ)
    (done : Outcome) (after : S) : Type 0 where
  pub taken : service.takes now ticket text done after
  pub stayed : OnErr done (service.stays now after)

-- the service was given one submission at most
abbrev pub MaySubmit : {S : Type 0} → Offered S → S → S → Type 0
MaySubmit service now after =
    (after ≡ now) ⊎ ((ticket : Ticket) × (text : List ℕ) × (done : Outcome)
    × Submits service now ticket text done after)

-- the service was given at most n submissions, one after another
abbrev pub MaySubmitMany : {S : Type 0} → Offered S → ℕ → S → S → Type 0
MaySubmitMany service zero now after = after ≡ now
MaySubmitMany {S} service (suc n) now after =
    (mid : S) × MaySubmitMany service n now mid × MaySubmit service mid after

-- a command's fault that is reported has a line
abbrev pub IsTold : SubmitFault → Type 0
IsTold (Command fault) = HasLine fault
IsTold _ = ⊤
