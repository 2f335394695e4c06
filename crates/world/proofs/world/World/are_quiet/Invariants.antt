use Rattle.std.proofs.Common.{◌-◌, length}
use Rattle.world.proofs.AllQuiet.{AreQuietTo}
use Rattle.world.proofs.world.World.are_quiet.Given as goal

abbrev pub invariant-loop-machine : goal.invariant-loop-machine
invariant-loop-machine l = AreQuietTo l.self l.seen

abbrev pub decreases-loop-machine : goal.decreases-loop-machine
decreases-loop-machine l = length l.self.machines.items - l.seen
