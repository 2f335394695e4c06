use Rattle.std.proofs.Common.{◌≡◌, ℕ}
use Rattle.site_ids.specs.Spans.{IsInSpan}
use Rattle.durable.specs.Raising.{IsRaised}
use Rattle.durable.specs.Slots.{cell_at, slot_at, value_at, IsThere}
use Rattle.durable.proofs.slots.Slots.promise_span.Given as goal

-- the first `past` of them are raised, and the others are as they were
abbrev pub invariant-loop-past : goal.invariant-loop-past
invariant-loop-past l = record {
  raised : (at : ℕ) → IsInSpan l.first l.past at → IsRaised (slot_at l.fn.self at) l.ballot (slot_at l.self at) × (value_at l.self at ≡ value_at l.fn.self at);
  others : (at : ℕ) → ¬ IsInSpan l.first l.past at → cell_at l.self at ≡ cell_at l.fn.self at;
  room : (at : ℕ) → IsInSpan l.first l.count at → IsThere l.self at;
}
