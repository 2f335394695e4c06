use Rattle.std.proofs.Common.{refl}
use Rattle.engine_schedule.proofs.Simulating.{begun}
use Rattle.engine_schedule.proofs.simulator.Simulation.new.Goals as goal

pub returns : goal.returns
returns c = begun c.args.cluster _ c.in_ok-world.ensures.whose c.in_ok-world.ensures.reached refl
