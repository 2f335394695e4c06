use Rattle.world.proofs.KeptWorked.{kept_is_shown, unkept_is_lost, votes_for_another}
use Rattle.world.proofs.laws.worked_keeping_is_taken.Goals as goal

pub returns-clause-kept : goal.returns-clause-kept
returns-clause-kept c = kept_is_shown

pub returns-clause-lost : goal.returns-clause-lost
returns-clause-lost c = unkept_is_lost

pub returns-clause-another : goal.returns-clause-another
returns-clause-another c = votes_for_another
