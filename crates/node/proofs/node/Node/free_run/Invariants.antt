use Rattle.std.proofs.Common.{◌≤◌, ◌+◌, suc}
use Rattle.site_ids.specs.declared.TheConstants.{MAX_INSTANCE}
use Rattle.node.specs.Nodes.{Node, IsFirstUnknown}
use Rattle.node.specs.Calls.{IsNextFree}
use Rattle.node.specs.Standing.{IsNodeOf}
use Rattle.node.proofs.Choosing.{AreFree}
use Rattle.node.proofs.node.Node.free_run.Given as goal

-- this many are free, from that one on
abbrev pub invariant-loop-past : goal.invariant-loop-past
invariant-loop-past g l = record {
  there : l.instance + l.past ≤ suc MAX_INSTANCE;
  free : (s : Node) → IsNodeOf l.self s → IsFirstUnknown s.known l.fn.first → IsNextFree s l.instance → AreFree s l.instance l.past;
}
