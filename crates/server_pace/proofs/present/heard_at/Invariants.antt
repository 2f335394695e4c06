use Rattle.std.proofs.Common.{◌≡◌, ℕ, length, ◌<◌, ◌≤◌, get_or, replicate, false, Some, None}
use Rattle.std.specs.Prelude.{if◌then◌else◌}
use Rattle.server_pace.proofs.present.heard_at.Given as goal

-- those so far are as they are to be, the others as none
abbrev pub invariant-loop-i : goal.invariant-loop-i
invariant-loop-i l =
    (length l.all ≡ 9)
    × (((k : ℕ) → k < l.i → get_or l.all k None ≡ (if get_or l.fn.came k false then Some l.fn.now else get_or l.fn.at k None))
    × ((k : ℕ) → l.i ≤ k → get_or l.all k None ≡ get_or (replicate 9 None) k None))
