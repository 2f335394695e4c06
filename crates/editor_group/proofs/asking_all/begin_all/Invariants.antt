use Rattle.std.proofs.Common.{◌≡◌, vec_len}
use Rattle.editor_group.proofs.asking_all.begin_all.Given as goal

abbrev pub invariant-loop-node : goal.invariant-loop-node
invariant-loop-node g l = vec_len l.calls ≡ l.node-index
