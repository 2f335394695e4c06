use Rattle.std.proofs.Common.{◌≡◌}
use Rattle.http_read.specs.Bytes.{end_of}
use Rattle.engine_script.proofs.ScriptRuns.{SoFar}
use Rattle.engine_script.proofs.cluster.run.Given as goal

-- the lines below k were done, and what they print was written
abbrev pub invariant-loop-k : goal.invariant-loop-k
invariant-loop-k g l = SoFar (end_of g.R.Read.remaining l.fn.reader l.reader) (end_of g.W.Write.contents l.fn.out l.out) l.k l.feed × (l.err ≡ l.fn.err)
