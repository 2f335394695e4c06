use Rattle.std.proofs.Common.{◌≡◌, ◌≤◌, ◌+◌, ◌-◌, ℕ, List, suc, ◌++◌, length}
use Rattle.node.specs.Effects.{messages_of}
use Rattle.engine_schedule.specs.Simulation.{IsMoment, Takes, to_each}
use Rattle.engine_schedule.specs.Stepping.{moment_of}
use Rattle.world.specs.declared.event.Event.{Event}
use Rattle.engine_schedule.proofs.simulator.Simulation.deliver_to_all.Given as goal

-- the nodes below this one had the message
abbrev pub invariant-loop-node : goal.invariant-loop-node
invariant-loop-node l = record {
  passed : ℕ;
  number : l.number ≡ suc passed;
  few : passed ≤ l.cluster;
  whose : l.cluster ≡ l.fn.self.world.cluster;
  same : l.self.world.cluster ≡ l.fn.self.world.cluster;
  settled : l.self.settled ≡ l.fn.self.settled;
  grows : length (messages_of l.fn.self.world.sent.items) ≤ length (messages_of l.self.world.sent.items);
  told : (n : ℕ) (events : List Event) → IsMoment n (moment_of l.fn.self events) → Takes n (moment_of l.fn.self events) (to_each passed l.index) (moment_of l.self (events ++ to_each passed l.index));
}

abbrev pub decreases-loop-node : goal.decreases-loop-node
decreases-loop-node l = l.cluster + 1 - l.number
