use Rattle.std.proofs.Common.{◌≡◌, List, ℕ, ◌++◌, length, string_bytes}
use denote.Text.{Utf8}
use denote.Shadow.{shadow}
use Rattle.render.specs.Printed.{escaped}
use Rattle.render.proofs.escape.push_escaped.Given as goal

-- what was added, and the rest escaped, make up the whole text escaped
abbrev pub invariant-loop-found : goal.invariant-loop-found
invariant-loop-found l =
    shadow (Utf8 l.rest) × (string_bytes l.out ++ escaped l.rest ≡ string_bytes l.initial.out ++ escaped l.text) × ((more : List ℕ) × (string_bytes l.out ≡ string_bytes l.initial.out ++ more))

abbrev pub decreases-loop-found : goal.decreases-loop-found
decreases-loop-found l = length l.rest
