use Rattle.rounds.proofs.Coding.{steps_are_steps, code_rounds_decide}
use Rattle.rounds.proofs.laws.rounds_of_code_decide.Goals as goal

pub returns-clause-step : goal.returns-clause-step
returns-clause-step g c = steps_are_steps g.D.Disk.stands_for

pub returns-clause-decides : goal.returns-clause-decides
returns-clause-decides g c = code_rounds_decide g.D.Disk.stands_for
