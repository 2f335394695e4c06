use Rattle.std.proofs.Common.{◌≡◌, ◌+◌, ℕ, Option, length}
use Rattle.site_ids.specs.Spans.{IsInSpan}
use Rattle.proposer.specs.Attempts.{Attempt, opened_span}
use Rattle.proposer.specs.Standing.{Attempting, HasRoom}
use Rattle.proposer.proofs.proposer.Proposer.open_span.Given as goal

-- with those that are left the attempts become those of all values
abbrev pub invariant-loop-own : goal.invariant-loop-own
invariant-loop-own l = record {
  only : l.self ≡ record l.fn.self { attempts = l.self.attempts };
  counted : l.past + length l.own-iterator.rest.items ≡ length l.fn.values.items;
  room : (at : ℕ) → IsInSpan l.first (length l.fn.values.items) at → HasRoom l.self at;
  opened : (attempts : ℕ → Option Attempt) → Attempting l.fn.self attempts → (mid : ℕ → Option Attempt) × Attempting l.self mid
      × (opened_span mid (l.first + l.past) l.ballot l.own-iterator.rest.items ≡ opened_span attempts l.first l.ballot l.fn.values.items);
}
