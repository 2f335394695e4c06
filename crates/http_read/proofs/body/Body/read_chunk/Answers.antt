use Rattle.std.proofs.Common.{arith, refl}
use Rattle.http_read.proofs.Stages.{chunk_whole}
use Rattle.http_read.proofs.body.Body.read_chunk.Goals as goal

pub returns-then-missing-eq0-clause-shows : goal.returns-then-missing-eq0-clause-shows
returns-then-missing-eq0-clause-shows c =
    chunk_whole c.args.self.now _ c.args.n c.in_ok-missing.missing _ _ c.requires refl c.in_ok-missing.ensures.taken (omega (arith, c.if-missing-eq0.true))
