use Rattle.server_pace.proofs.Bounds.{comes_in_time, is_asked}
use Rattle.server_pace.proofs.laws.questions_come_in_time.Goals as goal

pub returns-clause-comes : goal.returns-clause-comes
returns-clause-comes c = comes_in_time

pub returns-clause-asked : goal.returns-clause-asked
returns-clause-asked c = is_asked
