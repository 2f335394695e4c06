use Rattle.std.proofs.Common.{◌≡◌, length, vec_len}
use Rattle.editor_group.proofs.asking_all.said_in.Given as goal

abbrev pub invariant-loop-call : goal.invariant-loop-call
invariant-loop-call l = vec_len l.all ≡ length l.yielded
