use Rattle.std.proofs.Common.{◌-◌, ◌^◌, length}
use Rattle.http_read.specs.Bytes.{end_of, IsSound}
use Rattle.engine_common.specs.Feeds.{Grown}
use Rattle.engine_common.proofs.filling.fill.Given as goal

-- what was read so far is held after the rest
abbrev pub invariant-loop-feed : goal.invariant-loop-feed
invariant-loop-feed g l = Grown (end_of g.R.Read.remaining l.fn.reader l.reader) l.fn.feed l.feed × IsSound (end_of g.R.Read.remaining l.fn.reader l.reader)

abbrev pub decreases-loop-feed : goal.decreases-loop-feed
decreases-loop-feed g l = 2 ^ 64 - length l.feed
