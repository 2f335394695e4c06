use Rattle.std.proofs.Common.{◌≡◌, ◌-◌, ◌^◌, vec_len}
use Rattle.std.specs.Io.KnownBytes.{Consumes}
use Rattle.http_read.specs.Counted.{inside, failed}
use Rattle.engine_common.proofs.ends.read_all.Given as goal

-- what was read so far is what the reader lost
abbrev pub invariant-loop-bytes : goal.invariant-loop-bytes
invariant-loop-bytes g l =
    Consumes (g.R.Read.remaining (inside l.fn.reader)) (g.R.Read.remaining (inside l.reader)) l.bytes.items × (failed l.reader ≡ failed l.fn.reader)

abbrev pub decreases-loop-bytes : goal.decreases-loop-bytes
decreases-loop-bytes g l = 2 ^ 64 - vec_len l.bytes
