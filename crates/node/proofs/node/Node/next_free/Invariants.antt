use Rattle.node.specs.Nodes.{Node}
use Rattle.node.specs.Standing.{IsNodeOf}
use Rattle.node.proofs.Choosing.{NoneFree}
use Rattle.node.proofs.node.Node.next_free.Given as goal

abbrev pub invariant-loop-past : goal.invariant-loop-past
invariant-loop-past g l = (s : Node) → IsNodeOf l.self s → NoneFree s l.first l.past
