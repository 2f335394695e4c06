use Rattle.std.proofs.Common.{refl}
use Rattle.editor_plan.proofs.Moving.{heard_same}
use Rattle.editor_group.proofs.delivering.bring.Goals as goal

pub returns-in_err-node-clause-hears : goal.returns-in_err-node-clause-hears
returns-in_err-node-clause-hears g c = heard_same _ _ refl
