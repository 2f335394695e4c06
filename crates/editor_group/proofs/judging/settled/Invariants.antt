use Rattle.std.proofs.Common.{◌≡◌}
use Rattle.editor_group.proofs.judging.settled.Given as goal

abbrev pub invariant-loop-times : goal.invariant-loop-times
invariant-loop-times g l = l.group.nodes ≡ l.fn.group.nodes
