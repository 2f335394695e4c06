use Rattle.std.proofs.Common.{◌-◌}
use Rattle.http_read.proofs.trailers.look_for_section.Given as goal

abbrev pub decreases-loop-len : goal.decreases-loop-len
decreases-loop-len l = 2730 - l.spans.len
