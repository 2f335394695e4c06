use Rattle.editor_plan.proofs.Moving.{tickets}
use Rattle.editor_plan.proofs.laws.tickets_have_one_text.Goals as goal

pub returns : goal.returns
returns c = tickets
