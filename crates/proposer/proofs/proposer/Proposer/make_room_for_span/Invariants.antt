use Rattle.std.proofs.Common.{ℕ}
use Rattle.site_ids.specs.Spans.{IsInSpan}
use Rattle.proposer.specs.Standing.{Changes, HasRoom}
use Rattle.proposer.proofs.proposer.Proposer.make_room_for_span.Given as goal

-- there is room for this many of them, and the attempts are as they were
abbrev pub invariant-loop-past : goal.invariant-loop-past
invariant-loop-past l = record {
  stays : Changes l.fn.self l.self (λ attempts. attempts);
  room : (at : ℕ) → IsInSpan l.first l.past at → HasRoom l.self at;
}
