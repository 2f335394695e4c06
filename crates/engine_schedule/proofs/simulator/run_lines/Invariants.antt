use Rattle.std.proofs.Common.{◌≡◌, ℕ, List, [], Option}
use Rattle.http_read.specs.Bytes.{end_of}
use Rattle.engine_schedule.specs.Stepping.{HasBegun, behind}
use Rattle.engine_schedule.proofs.Simulated.{SoFar}
use Rattle.engine_schedule.proofs.simulator.run_lines.Given as goal

-- the lines below k were done, and what they print was written
abbrev pub invariant-loop-k : goal.invariant-loop-k
invariant-loop-k g l = ((before : Option (List ℕ)) (failures : ℕ) → HasBegun (behind before failures (end_of g.R.Read.remaining l.fn.reader l.fn.reader)) l.fn.simulation [] l.fn.feed
    → SoFar (behind before failures (end_of g.R.Read.remaining l.fn.reader l.reader)) (end_of g.W.Write.contents l.fn.out l.out) l.k l.simulation l.feed) × (l.err ≡ l.fn.err)
