use Rattle.rounds.proofs.Joining.{calm_rounds_decide}
use Rattle.rounds.proofs.Keeping.{rounds_keep}
use Rattle.rounds.proofs.Starting.{start_is_calm}
use Rattle.rounds.proofs.laws.calm_rounds_decide.Goals as goal

pub returns-clause-decides : goal.returns-clause-decides
returns-clause-decides c = calm_rounds_decide

pub returns-clause-keeps : goal.returns-clause-keeps
returns-clause-keeps c = rounds_keep

pub returns-clause-start : goal.returns-clause-start
returns-clause-start c = start_is_calm
