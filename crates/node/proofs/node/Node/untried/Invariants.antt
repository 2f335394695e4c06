use Rattle.std.proofs.Common.{◌≤◌, length, take}
use Rattle.node.specs.Nodes.{Node}
use Rattle.node.specs.Calls.{AreUntried}
use Rattle.node.specs.Standing.{IsNodeOf}
use Rattle.node.specs.Widening.{IsOldestUntried}
use Rattle.node.proofs.node.Node.untried.Given as goal

-- of this many values these are the untried ones
abbrev pub invariant-loop-place : goal.invariant-loop-place
invariant-loop-place g l = record {
  some : 1 ≤ length l.values.items;
  few : length l.values.items ≤ l.most;
  untried : (s : Node) → IsNodeOf l.self s → IsOldestUntried s l.oldest → AreUntried s (take l.place s.pending) l.values.items;
}
