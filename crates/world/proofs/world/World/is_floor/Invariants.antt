use Rattle.std.proofs.Common.{◌-◌, ◌≤◌, length}
use Rattle.world.proofs.AllowedFloors.{AreBelow}
use Rattle.world.proofs.world.World.is_floor.Given as goal

abbrev pub invariant-loop-machine : goal.invariant-loop-machine
invariant-loop-machine l = record {
  within : l.seen ≤ length l.self.machines.items;
  few : l.below ≤ l.seen;
  below : AreBelow l.self l.at l.seen l.below;
}

abbrev pub decreases-loop-machine : goal.decreases-loop-machine
decreases-loop-machine l = length l.self.machines.items - l.seen
