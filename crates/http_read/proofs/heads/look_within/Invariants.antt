use Rattle.std.proofs.Common.{◌-◌}
use Rattle.http_read.proofs.heads.look_within.Given as goal

abbrev pub decreases-loop-found : goal.decreases-loop-found
decreases-loop-found l = 2730 - l.spans.len
