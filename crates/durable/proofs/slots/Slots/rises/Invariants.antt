use Rattle.std.proofs.Common.{ℕ}
use Rattle.site_ids.specs.Spans.{IsInSpan}
use Rattle.acceptor.specs.Judging.{IsFreeBelow}
use Rattle.durable.specs.Slots.{slot_at}
use Rattle.durable.proofs.slots.Slots.rises.Given as goal

-- none of the first `past` of them rises
abbrev pub invariant-loop-past : goal.invariant-loop-past
invariant-loop-past l = (at : ℕ) → IsInSpan l.first l.past at → ¬ IsFreeBelow (slot_at l.self at).promised l.ballot
