use Rattle.std.proofs.Common.{◌≡◌}
use Rattle.node.specs.Nodes.{Node}
use Rattle.node.specs.Standing.{IsNodeOf}
use Rattle.server.specs.Recording.{recorded_to}
use Rattle.server.proofs.recorded.Recorded.of.Given as goal

abbrev pub invariant-loop-past : goal.invariant-loop-past
invariant-loop-past g l = (s : Node) → IsNodeOf l.node s → l.recorded ≡ recorded_to s l.past
