-- What a publication may take over from others.
use Rattle.std.specs.Prelude.{ℕ, ◌==◌, ◌&&◌, ◌||◌, if◌then◌else◌, Bool, not, Option, Some, None}

-- a node gives one of these for a page; any other status comes from a proxy before the node
abbrev pub is_of_page : ℕ → Bool
is_of_page status = status == 200 || status == 301 || status == 404 || status == 500

-- a path for which the folder has no receipt is taken over if the group has something there, and its
-- answer is not that of the folder's own texts
abbrev pub takes_over : ℕ → Bool → Bool
takes_over status own = not (status == 404) && not own

-- an answer that no node gives decides nothing
abbrev pub is_taken : ℕ → Bool → Option Bool
is_taken status own = if is_of_page status then Some (takes_over status own) else None

-- the folder has no text with a receipt, and the group has a release: none of what is there is the
-- folder's
abbrev pub joins : ℕ → ℕ → Bool
joins receipts newest = receipts == 0 && not (newest == 0)
