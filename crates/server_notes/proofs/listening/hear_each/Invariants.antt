use Rattle.std.proofs.Common.{◌≡◌, ℕ, length, ◌<◌, ◌≤◌, get_or, false, if◌then◌else◌}
use Rattle.server_notes.specs.Listening.{silence_at}
use Rattle.server_notes.specs.Noting.{heard_at}
use Rattle.server_notes.proofs.listening.hear_each.Given as goal

-- those so far are as they are to be, the others as they were
abbrev pub invariant-loop-i : goal.invariant-loop-i
invariant-loop-i l =
    (length l.after ≡ 9)
    × (((k : ℕ) → k < l.i → silence_at l.after k ≡ (if get_or l.fn.heard k false then heard_at (silence_at l.fn.silences k) l.fn.now else silence_at l.fn.silences k))
    × ((k : ℕ) → l.i ≤ k → silence_at l.after k ≡ silence_at l.fn.silences k))
