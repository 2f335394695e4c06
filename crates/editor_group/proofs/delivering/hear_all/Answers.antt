use Rattle.std.proofs.Common.{refl}
use Rattle.editor_plan.proofs.Moving.{heard_same, heard_on}
use Rattle.editor_group.proofs.delivering.hear_all.Goals as goal

pub loop-ask-init : goal.loop-ask-init
loop-ask-init c = heard_same _ _ refl

pub loop-ask-preserved : goal.loop-ask-preserved
loop-ask-preserved c = heard_on _ _ _ c.loop-ask.invariant c.hear.ensures.hears

pub returns-in_err-hear-clause-hears : goal.returns-in_err-hear-clause-hears
returns-in_err-hear-clause-hears c = heard_on _ _ _ c.loop-ask.invariant c.hear.ensures.hears
