-- Which nodes are there, and whose turn it is to tell one of them. Times are milliseconds since the server
-- began.
use Rattle.std.specs.Prelude.{◌≡◌, ℕ, zero, suc, ◌-◌, ◌<◌, List, replicate, get_or, Bool, false, not, ◌||◌}
use Rattle.std.specs.Prelude.{◌&&◌, nat_eq, nat_le, nat_lt, if◌then◌else◌, Option, Some, None}
use Rattle.site_ids.specs.NodeSets.{no_nodes}
use Rattle.server_pace.specs.Places.{places_behind}
use Rattle.server_pace.specs.declared.present.Present.{Present}
use Rattle.server_times.specs.Timing.{passed}
use Rattle.server_times.specs.declared.times.Times.{Times}

abbrev pub nobody_heard : Present
nobody_heard = record { came = no_nodes; at = replicate 9 None }

-- nodes of which something came were heard now, the others when they were before
abbrev pub AreHeard : List Bool → List (Option ℕ) → ℕ → List (Option ℕ) → Type 0
AreHeard came at now new = (i : ℕ) → i < 9
    → get_or new i None ≡ (if get_or came i false then Some now else get_or at i None)

-- node q was heard not long ago
abbrev pub is_there : List (Option ℕ) → Times → ℕ → ℕ → Bool
is_there at times now q = not (passed (get_or at (q - 1) None) now times.silent)

-- node q is there, and comes after node p before this one does
abbrev pub comes_before : List (Option ℕ) → Times → ℕ → ℕ → ℕ → ℕ → Bool
comes_before at times now p me q = is_there at times now q && nat_lt (places_behind p q) (places_behind p me)

-- how many of the nodes from 1 to a number come before this one
abbrev pub before : List (Option ℕ) → Times → ℕ → ℕ → ℕ → ℕ → ℕ
before at times now p me zero = 0
before at times now p me (suc k) =
    if comes_before at times now p me (suc k) then suc
    (before at times now p me k) else before at times now p me k

-- It is this node's turn to tell node p, whose last `repeats` questions in a row came no further. A node
-- always tells itself. Of the others the first that is there has its turn at once, and each question brings
-- in the next one
abbrev pub has_turn : List (Option ℕ) → Times → ℕ → ℕ → ℕ → ℕ → Bool
has_turn at times now p me repeats = nat_eq p me || nat_le (before at times now p me 9) repeats
