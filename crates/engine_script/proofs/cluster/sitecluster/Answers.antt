use Rattle.std.proofs.Common.{inr}
use Rattle.engine_script.proofs.cluster.sitecluster.Goals as goal

pub returns-in-Ok : goal.returns-in-Ok
returns-in-Ok g c = inr c.run.ensures
