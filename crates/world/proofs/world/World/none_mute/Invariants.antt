use Rattle.std.proofs.Common.{◌≤◌, ◌-◌}
use Rattle.world.specs.Quiet.{quorum}
use Rattle.world.proofs.AllQuiet.{SpeakTo}
use Rattle.world.proofs.world.World.none_mute.Given as goal

abbrev pub invariant-loop-seen : goal.invariant-loop-seen
invariant-loop-seen l = record {
  most : l.seen ≤ quorum l.self.cluster;
  speak : SpeakTo l.self l.instance l.seen;
}

abbrev pub decreases-loop-seen : goal.decreases-loop-seen
decreases-loop-seen l = quorum l.self.cluster - l.seen
