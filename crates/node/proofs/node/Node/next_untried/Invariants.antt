use Rattle.std.proofs.Common.{[], take}
use Rattle.node.specs.Nodes.{Node}
use Rattle.node.specs.Calls.{AreUntried}
use Rattle.node.specs.Standing.{IsNodeOf}
use Rattle.node.proofs.node.Node.next_untried.Given as goal

-- of so many values each is tried
abbrev pub invariant-loop-place : goal.invariant-loop-place
invariant-loop-place g l = (s : Node) → IsNodeOf l.self s → AreUntried s (take l.place s.pending) []
