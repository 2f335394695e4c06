use Rattle.std.proofs.Common.{◌≡◌, ◌≤◌, length, vec_len}
use Rattle.editor_group.proofs.asking.ask_all.Given as goal

-- no more answers than were asked for so far
abbrev pub invariant-loop-some : goal.invariant-loop-some
invariant-loop-some g l = record {
  few : vec_len l.fn.answers ≡ 0 → vec_len l.answers ≤ l.asked;
  within : l.asked ≤ length l.questions;
}
