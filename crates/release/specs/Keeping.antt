-- What is kept beside the values that were fed.
use Rattle.std.specs.Prelude.{ℕ, suc, ◌≡◌, ◌≤◌, List, [], ◌∷◌, length, Option, None, Some, slice_get}
use Rattle.std.specs.BTreeMap.{BTreeMap, get}
use Rattle.std.specs.declared.cmp.Ordering.{Ordering}
use Rattle.std.specs.Ordering.{nat_cmp, ordering_then}
use Rattle.site_ids.specs.declared.TheConstants.{MAX_INSTANCE}
use Rattle.site_ids.specs.declared.Ticket.{Ticket}
use Rattle.command.specs.Effective.{effective}
use Rattle.command.specs.Releases.{release_count}
use Rattle.content.specs.View.{ContentsSeen}
use Rattle.content.specs.Standing.{HasContents}
use Rattle.release.specs.Receipts.{receipt_of}
use Rattle.release.specs.ReleaseSite.{IsSiteOfRelease}

-- by editor, then by number
abbrev pub ticket_cmp : Ticket → Ticket → Ordering
ticket_cmp a b = ordering_then (nat_cmp a.editor b.editor) (nat_cmp a.number b.number)

abbrev pub listed : {X : Type 0} → Option X → List X
listed None = []
listed (Some x) = x ∷ []

-- what is kept beside the values: the contents of all, those of each release, and the receipts
pub record Keeps (values : List (List ℕ)) (live : ContentsSeen) (sites : List ContentsSeen)
    (receipts : BTreeMap Ticket ℕ) : Type 0 where
  pub few : length values ≤ MAX_INSTANCE
  pub stands : HasContents live (effective values)
  pub count : length sites ≡ release_count (effective values)
  pub each : (place : ℕ) (site : ContentsSeen) → slice_get sites place ≡ Some site
      → IsSiteOfRelease values (suc place) site
  pub found : (ticket : Ticket) → get ticket_cmp receipts ticket ≡ receipt_of ticket values
