use Rattle.editor_plan.proofs.Moving.{heard_same, heard_one}
use Rattle.editor_group.proofs.delivering.hear.Goals as goal

pub returns-in_err-hear-clause-hears : goal.returns-in_err-hear-clause-hears
returns-in_err-hear-clause-hears c = heard_same _ _ c.in_err-hear.ensures.err

pub returns-in-Refused-clause-hears : goal.returns-in-Refused-clause-hears
returns-in-Refused-clause-hears c = heard_one c.args.ask c.args.answer.now.status _ _ c.in_ok-hear.ensures.ledger

pub returns-in_default-clause-hears : goal.returns-in_default-clause-hears
returns-in_default-clause-hears c = heard_one c.args.ask c.args.answer.now.status _ _ c.in_ok-hear.ensures.ledger
