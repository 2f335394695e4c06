-- What waits to be written, as it lies in memory.
use Rattle.std.specs.Prelude.{ℕ, ◌<◌, ◌≤◌, List, [], length, Option, Some, None, Vec, ⊤}
use Rattle.std.specs.declared.alloc.Global.{Global}
use Rattle.http_serve.specs.declared.outbox.TheConstants.{WAITING}

-- the bytes of a long response after the others
abbrev pub behind : Option (Vec ℕ Global) → List ℕ
behind None = []
behind (Some long) = long.items

-- such a response comes only after others of which some bytes wait, and is long
abbrev pub IsBehind : List ℕ → Option (Vec ℕ Global) → Type 0
IsBehind waits None = ⊤
IsBehind waits (Some long) = (0 < length waits) × (WAITING ≤ length long.items)
