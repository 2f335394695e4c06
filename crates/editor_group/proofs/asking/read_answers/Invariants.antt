use Rattle.std.proofs.Common.{◌≤◌, vec_len}
use Rattle.editor_group.proofs.asking.read_answers.Given as goal

abbrev pub invariant-loop : goal.invariant-loop
invariant-loop l = vec_len l.fn.answers ≤ l.most → vec_len l.answers ≤ l.most
