use Rattle.std.proofs.Common.{◌≤◌, ◌-◌}
use Rattle.world.specs.Worlds.{World}
use Rattle.world.specs.Standing.{IsWorldOf}
use Rattle.world.specs.Quiet.{AllRun, quorum}
use Rattle.world.proofs.Overbidders.{Looked}
use Rattle.world.proofs.world.World.overbidder.Given as goal

abbrev pub invariant-loop-seen : goal.invariant-loop-seen
invariant-loop-seen l = record {
  most : l.seen ≤ quorum l.self.cluster;
  looked : (w : World) → IsWorldOf l.self w → AllRun l.self.cluster w → Looked l.self.cluster w l.instance l.fn.ballot l.seen l.highest.node l.highest.ballot;
}

abbrev pub decreases-loop-seen : goal.decreases-loop-seen
decreases-loop-seen l = quorum l.self.cluster - l.seen
