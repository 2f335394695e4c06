use Rattle.server.proofs.Runs.{as_many}
use Rattle.server.proofs.engine.start.Goals as goal

pub returns-clause-laps : goal.returns-clause-laps
returns-clause-laps g c = as_many c.count_passes-count.ensures c.work.ensures.laps
