use Rattle.std.proofs.Common.{◌≡◌, ◌-◌, length}
use Rattle.node.specs.Standing.{OnlyGrows}
use Rattle.world.proofs.Following.{SoFar}
use Rattle.world.proofs.world.World.run.Given as goal

abbrev pub invariant-loop-event : goal.invariant-loop-event
invariant-loop-event l =
    record {
      whose : l.self.cluster ≡ l.fn.self.cluster;
      ends : SoFar l.fn.self l.self l.events l.taken;
      grows : OnlyGrows l.fn.self.sent.items l.self.sent.items;
    }

abbrev pub decreases-loop-event : goal.decreases-loop-event
decreases-loop-event l = length l.events - l.taken
