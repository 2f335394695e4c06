use Rattle.std.proofs.Common.{◌≡◌, vec_len}
use Rattle.editor_group.proofs.reports.first_reports.Given as goal

abbrev pub invariant-loop-said : goal.invariant-loop-said
invariant-loop-said g l = vec_len l.reports ≡ l.said-index
