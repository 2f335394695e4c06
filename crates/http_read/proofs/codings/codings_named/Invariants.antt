use Rattle.std.proofs.Common.{◌≡◌, List, ℕ, ◌++◌, drop}
use Rattle.http_read.specs.Checks.{codings_of}
use Rattle.http_read.specs.Codings.{Tells}
use Rattle.http_read.specs.Spans.{covered}
use Rattle.http_read.proofs.codings.codings_named.Given as goal

abbrev pub invariant-loop-i : goal.invariant-loop-i
invariant-loop-i l = (seen : List (List ℕ)) × Tells l.codings seen
    × (codings_of (covered l.bytes l.fields) ≡ seen ++ codings_of (covered l.bytes (drop l.i l.fields)))
