use Rattle.std.proofs.Common.{length}
use Rattle.context.proofs.look_up.+within.Given as goal

abbrev pub decreases-within : goal.decreases-within
decreases-within l = length l.path.now
