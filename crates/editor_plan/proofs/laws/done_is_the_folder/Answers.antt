use Rattle.editor_plan.proofs.Moving.{done}
use Rattle.editor_plan.proofs.laws.done_is_the_folder.Goals as goal

pub returns : goal.returns
returns c = done
