-- What a decoded path names.
use Rattle.std.specs.Prelude.{◌≡◌, ℕ, ◌^◌, ◌<◌, ◌⊎◌, List, ◌++◌, codes}
use Rattle.std.specs.Fmt.{decimal}
use Rattle.site_ids.specs.declared.Ticket.{Ticket}

-- a submission by its ticket, a ticket's receipt, the newest release's number, a page of a release, nothing,
-- or a page of the newest release
pub data Resource : Type 0 where
  submission : Ticket → Resource
  receipt : Ticket → Resource
  newest : Resource
  release : ℕ → List ℕ → Resource
  unknown : Resource
  page : Resource

-- the path of a ticket below a word: both numbers in decimal, without leading zeros, in the range of their
-- types
abbrev pub IsTicketPath : List ℕ → List ℕ → Ticket → Type 0
IsTicketPath word path ticket =
    (ticket.editor < 2 ^ 32) × (ticket.number < 2 ^ 64)
    × (path ≡ word ++ (decimal ticket.editor ++ (codes "/" ++ decimal ticket.number)))

-- the path is kept for the server's own answers
abbrev pub IsReserved : List ℕ → Type 0
IsReserved path =
    ((rest : List ℕ) × (path ≡ codes "/_" ++ rest)) ⊎ ((rest : List ℕ) × (path ≡ codes "/@" ++ rest))

-- the path names this resource of the server's own
abbrev pub IsOwn : List ℕ → Resource → Type 0
IsOwn path (submission ticket) = IsTicketPath (codes "/_submit/") path ticket
IsOwn path (receipt ticket) = IsTicketPath (codes "/_ticket/") path ticket
IsOwn path newest = path ≡ codes "/_newest"
IsOwn path (release n rest) =
    (n < 2 ^ 64) × ((tail : List ℕ) × (rest ≡ codes "/" ++ tail)) × (path ≡ codes "/@" ++ (decimal n ++ rest))
IsOwn path unknown = ⊥
IsOwn path page = ⊥

-- the path names this resource
abbrev pub Names : List ℕ → Resource → Type 0
Names path (submission ticket) = IsOwn path (submission ticket)
Names path (receipt ticket) = IsOwn path (receipt ticket)
Names path newest = IsOwn path newest
Names path (release n rest) = IsOwn path (release n rest)
Names path unknown = IsReserved path × ((resource : Resource) → ¬ (IsOwn path resource))
Names path page = ¬ (IsReserved path)
