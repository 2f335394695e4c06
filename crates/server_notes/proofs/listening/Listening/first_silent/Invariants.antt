use Rattle.std.proofs.Common.{◌≡◌, ℕ, ◌<◌, ◌≤◌, ◌-◌, false}
use Rattle.server_notes.specs.Listening.{silence_at}
use Rattle.server_notes.specs.Noting.{is_long}
use Rattle.server_notes.proofs.listening.Listening.first_silent.Given as goal

-- none so far
abbrev pub invariant-loop-number : goal.invariant-loop-number
invariant-loop-number l = (q : ℕ) → 1 ≤ q → q < l.number → is_long (silence_at l.fn.self.silences (q - 1)) l.fn.now ≡ false
