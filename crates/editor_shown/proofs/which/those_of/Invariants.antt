use Rattle.std.proofs.Common.{◌≡◌, ◌++◌, map, drop, string_bytes}
use Rattle.editor_shown.specs.Taking.{those_of}
use Rattle.editor_shown.proofs.which.those_of.Given as goal

-- those so far, and those of the paths that are left
abbrev pub invariant-loop-i : goal.invariant-loop-i
invariant-loop-i l =
    map string_bytes l.those.items ++ those_of l.which l.states l.i (map string_bytes (drop l.i l.paths)) (drop l.i l.answers)
    ≡ those_of l.which l.states 0 (map string_bytes l.paths) l.answers
