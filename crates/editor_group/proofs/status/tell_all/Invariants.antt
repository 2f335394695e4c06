use Rattle.editor_group.proofs.Telling.{Tells}
use Rattle.editor_group.proofs.status.tell_all.Given as goal

abbrev pub invariant-loop-report : goal.invariant-loop-report
invariant-loop-report g l = Tells l.report-index l.range.last l.well l.values.items
