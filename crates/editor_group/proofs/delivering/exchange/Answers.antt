use Rattle.std.proofs.Common.{refl}
use Rattle.editor_plan.proofs.Moving.{heard_same}
use Rattle.editor_group.proofs.delivering.exchange.Goals as goal

pub returns-in_err-asks-clause-hears : goal.returns-in_err-asks-clause-hears
returns-in_err-asks-clause-hears g c = heard_same _ _ refl

pub returns-in_err-answers-clause-hears : goal.returns-in_err-answers-clause-hears
returns-in_err-answers-clause-hears g c = heard_same _ _ refl
