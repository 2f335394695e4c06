use Rattle.std.proofs.Common.{◌&&◌, refl, ap}
use Rattle.editor_group.proofs.Telling.{tells_more}
use Rattle.editor_group.proofs.status.tell_all.Goals as goal

pub loop-report-preserved : goal.loop-report-preserved
loop-report-preserved g c =
    tells_more c.loop-report.report-index _ c.args.range.last c.loop-report.well _ c.loop-report.values.items _
    c.row_of-row.result c.in_ok-node_value.field-0 c.loop-report.invariant c.in_ok-node_value.ensures
    c.in_ok-push.ensures.items (ap (λ b. c.loop-report.well && b) c.is_well.ensures) refl
