use Rattle.std.proofs.Common.{◌≡◌, ℕ, length, ◌<◌, ◌≤◌, get_or, replicate, None}
use Rattle.server_pace.specs.Courses.{course_after}
use Rattle.server_pace.proofs.questions.courses_after.Given as goal

-- those so far are as they are to be, the others as none
abbrev pub invariant-loop-i : goal.invariant-loop-i
invariant-loop-i l =
    (length l.all ≡ 9)
    × (((k : ℕ) → k < l.i → get_or l.all k None ≡ course_after l.fn.times l.fn.now (get_or l.fn.asked k None) (get_or l.fn.courses k None))
    × ((k : ℕ) → l.i ≤ k → get_or l.all k None ≡ get_or (replicate 9 None) k None))
