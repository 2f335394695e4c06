use Rattle.std.proofs.Common.{◌≡◌, ◌+◌, ℕ, List, ◌++◌}
use Rattle.engine_schedule.specs.Simulation.{IsMoment, Takes, deliveries}
use Rattle.engine_schedule.specs.Stepping.{moment_of}
use Rattle.world.specs.declared.event.Event.{Event}
use Rattle.engine_schedule.proofs.simulator.Simulation.settle.Given as goal

-- the messages below this one were delivered to all
abbrev pub invariant-loop-index : goal.invariant-loop-index
invariant-loop-index l = record {
  count : ℕ;
  here : l.index ≡ l.fn.self.settled + count;
  settled : l.self.settled ≡ l.index;
  delivered : (n : ℕ) (events : List Event) → IsMoment n (moment_of l.fn.self events)
      → Takes n (moment_of l.fn.self events) (deliveries n l.fn.self.settled count) (moment_of l.self (events ++ deliveries n l.fn.self.settled count));
}
