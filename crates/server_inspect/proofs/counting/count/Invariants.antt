use Rattle.std.proofs.Common.{◌≡◌, ◌≤◌, ◌||◌, is_some}
use Rattle.durable.specs.Slots.{slot_at, value_at}
use Rattle.server_inspect.specs.Counting.{count_to, last_to}
use Rattle.server_inspect.proofs.counting.count.Given as goal

-- so it is of the first so many instances
abbrev pub invariant-loop-past : goal.invariant-loop-past
invariant-loop-past g l = record {
  votes : l.votes ≡ count_to (λ i. is_some (slot_at l.fn.opened.recorded.slots i).vote) l.past;
  learned : l.learned ≡ count_to (λ i. is_some (value_at l.fn.opened.recorded.slots i)) l.past;
  last : l.last ≡ last_to (λ i. is_some (slot_at l.fn.opened.recorded.slots i).vote || is_some (value_at l.fn.opened.recorded.slots i)) l.past;
  few : l.votes ≤ l.past;
  few_learned : l.learned ≤ l.past;
}
