use Rattle.std.proofs.Common.{◌≡◌, ◌+◌, ◌++◌, ℕ, map}
use Rattle.node.specs.Nodes.{Node}
use Rattle.node.specs.Standing.{IsNodeOf}
use Rattle.node.specs.Tellings.{tellings, fitting, told_from, addressed}
use Rattle.node.proofs.node.Node.tellings.Given as goal

-- what is reported so far, and then what is reported of the instances that are left
abbrev pub invariant-loop-past : goal.invariant-loop-past
invariant-loop-past g l = record {
  left : ℕ;
  counted : l.past + left ≡ 64;
  so_far : (s : Node) → IsNodeOf l.self s
      → map (addressed l.to) (told_from l.self.me s l.first) ≡ l.told.items ++ map (addressed l.to) (fitting l.room (tellings l.self.me s left (l.first + l.past)));
}
