use Rattle.std.proofs.Common.{◌++◌, take}
use Rattle.std.proofs.KnownBytes.{Consumes-trans}
use Rattle.engine_common.proofs.ends.read_all.Goals as goal

pub returns-in_err-extend_from_slice-in-Ok-clause-taken : goal.returns-in_err-extend_from_slice-in-Ok-clause-taken
returns-in_err-extend_from_slice-in-Ok-clause-taken g c =
    (c.loop-bytes.bytes.items ++ take c.in-Ok.n c.read.new.buf, Consumes-trans _ _ _ _ _ c.loop-bytes.invariant.0 c.in-Ok.ensures.bytes.0)
