use Rattle.std.proofs.Common.{◌≡◌, ◌++◌, ◌∷◌, map, drop}
use Rattle.editor_ledger.specs.View.{past_view}
use Rattle.editor_plan.specs.States.{stops_after}
use Rattle.editor_plan.proofs.states.stops.Given as goal

-- those so far, and those that are left
abbrev pub invariant-loop-had : goal.invariant-loop-had
invariant-loop-had l =
    l.stops.items ++ stops_after l.last (map past_view (drop l.had-index l.had-items))
    ≡ l.ledger.last_release ∷ stops_after l.ledger.last_release (map past_view l.had-items)
