use Rattle.std.proofs.Common.{◌≡◌, ℕ}
use Rattle.site_ids.specs.Spans.{IsInSpan}
use Rattle.durable.specs.Slots.{cell_at, IsThere}
use Rattle.durable.proofs.slots.Slots.make_room_for_span.Given as goal

-- there is room for the first `past` of them
abbrev pub invariant-loop-past : goal.invariant-loop-past
invariant-loop-past l = record {
  same : (other : ℕ) → cell_at l.self other ≡ cell_at l.fn.self other;
  room : (at : ℕ) → IsInSpan l.first l.past at → IsThere l.self at;
}
