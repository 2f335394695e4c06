use Rattle.world.proofs.Quieting.{plans_are_short, quiet_decides, plans_are_good}
use Rattle.world.proofs.Stretching.{quiet_runs_learn}
use Rattle.world.proofs.laws.quiet_stretches_decide.Goals as goal

pub returns-clause-short : goal.returns-clause-short
returns-clause-short c = plans_are_short

pub returns-clause-decides : goal.returns-clause-decides
returns-clause-decides c = quiet_decides

pub returns-clause-good : goal.returns-clause-good
returns-clause-good c = plans_are_good

pub returns-clause-runs : goal.returns-clause-runs
returns-clause-runs c = quiet_runs_learn
