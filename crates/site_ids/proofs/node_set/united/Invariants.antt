use Rattle.std.proofs.Common.{◌≡◌, ℕ, length, ◌<◌, ◌≤◌, get_or, false, ◌||◌}
use Rattle.site_ids.proofs.node_set.united.Given as goal

-- those so far are as they are to be, the others as they were
abbrev pub invariant-loop-i : goal.invariant-loop-i
invariant-loop-i l =
    (length l.all ≡ 9)
    × (((k : ℕ) → k < l.i → get_or l.all k false ≡ (get_or l.fn.some k false || get_or l.fn.others k false))
    × ((k : ℕ) → l.i ≤ k → get_or l.all k false ≡ get_or l.fn.others k false))
