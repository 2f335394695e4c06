use Rattle.std.proofs.Common.{rules}
use Rattle.editor_plan.proofs.course.stage_of.Goals as goal

pub returns-else-is_idle : goal.returns-else-is_idle
returns-else-is_idle c = search rules
