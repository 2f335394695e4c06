use Rattle.std.proofs.Common.{◌≡◌, vec_len}
use Rattle.editor_group.proofs.judging.witnesses_in.Given as goal

abbrev pub invariant-loop-said : goal.invariant-loop-said
invariant-loop-said l = vec_len l.witnesses ≡ l.said-index
