use Rattle.std.proofs.Common.{◌≡◌, ◌+◌, ℕ}
use Rattle.node.specs.Nodes.{Node}
use Rattle.node.specs.Standing.{IsNodeOf}
use Rattle.node.specs.Tellings.{covered, covered_from}
use Rattle.node.proofs.node.Node.covers.Given as goal

-- so many are covered, and then those that are left
abbrev pub invariant-loop-past : goal.invariant-loop-past
invariant-loop-past g l = record {
  left : ℕ;
  counted : l.past + left ≡ 64;
  so_far : (s : Node) → IsNodeOf l.self s → covered_from s l.first ≡ l.past + covered l.room s left (l.first + l.past);
}
