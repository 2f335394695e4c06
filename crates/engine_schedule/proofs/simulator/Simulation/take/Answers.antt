use Rattle.std.proofs.Common.{[], ◌∷◌, ◌++◌, refl}
use Rattle.engine_schedule.specs.Stepping.{moment_of}
use Rattle.engine_schedule.proofs.Simulating.{bad_run, took}
use Rattle.engine_schedule.proofs.simulator.Simulation.take.Goals as goal

pub returns-clause-bad : goal.returns-clause-bad
returns-clause-bad c = λ is w stands. bad_run c.args.self.now.world c.run.new.self c.args.event _ c.in-Err-BadEvent.field-0 _ w c.in-Err-BadEvent.ensures.ends c.in-Err-BadEvent.field-0-is refl stands

pub returns-in-Ok-clause-ok : goal.returns-in-Ok-clause-ok
returns-in-Ok-clause-ok c = λ n events m.
    took n (moment_of c.args.self.now events) (record { world = c.run.new.self; events = events ++ c.args.event ∷ []; settled = c.args.self.now.settled }) (c.args.event ∷ [])
    c.in-Ok.ensures.ends c.run.ensures.whose (c.in-Ok.ensures.reached events m.reached) refl m
