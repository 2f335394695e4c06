use Rattle.std.proofs.Common.{◌≡◌, ℕ, ◌<◌, ◌≤◌, ◌-◌, get_or, true, false}
use Rattle.server_pace.specs.Places.{places_behind}
use Rattle.server_pace.proofs.yielding.Yielding.is_behind.Given as goal

-- none of the nodes so far that tried comes before this server
abbrev pub invariant-loop-number : goal.invariant-loop-number
invariant-loop-number l = (q : ℕ) → 1 ≤ q → q < l.number → get_or l.tried (q - 1) false ≡ true → ¬ (places_behind l.last q < places_behind l.last l.fn.me)
