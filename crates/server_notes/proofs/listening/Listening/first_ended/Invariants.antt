use Rattle.std.proofs.Common.{◌≡◌, ℕ, ◌<◌, ◌≤◌, ◌-◌}
use Rattle.server_notes.specs.Listening.{silence_at}
use Rattle.server_notes.proofs.listening.Listening.first_ended.Given as goal

-- none so far
abbrev pub invariant-loop-number : goal.invariant-loop-number
invariant-loop-number l = (q : ℕ) → 1 ≤ q → q < l.number → (silence_at l.fn.self.silences (q - 1)).ended ≡ 0
