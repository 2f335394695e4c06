use Rattle.engine_schedule.proofs.OneLine.{one_line}
use Rattle.engine_schedule.proofs.laws.a_schedule_has_one_reading.Goals as goal

pub returns : goal.returns
returns c = one_line
