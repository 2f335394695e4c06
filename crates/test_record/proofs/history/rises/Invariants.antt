use Rattle.std.proofs.Common.{ℕ}
use Rattle.site_ids.specs.Spans.{IsInSpan}
use Rattle.durable.specs.Histories.{IsAbove}
use Rattle.test_record.specs.Meaning.{meanings}
use Rattle.test_record.proofs.history.rises.Given as goal

-- at none of so many of them
abbrev pub invariant-loop-past : goal.invariant-loop-past
invariant-loop-past l = (at : ℕ) → IsInSpan l.first l.past at → ¬ IsAbove (meanings l.earlier) at l.ballot
