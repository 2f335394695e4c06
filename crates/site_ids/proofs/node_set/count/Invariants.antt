use Rattle.std.proofs.Common.{◌≡◌, ◌≤◌, take}
use Rattle.site_ids.specs.NodeSets.{count_of}
use Rattle.site_ids.proofs.node_set.count.Given as goal

-- so many of those so far
abbrev pub invariant-loop-i : goal.invariant-loop-i
invariant-loop-i l = (l.count ≡ count_of (take l.i l.members)) × (l.count ≤ l.i)
