use Rattle.std.proofs.Common.{length, arith}
use Rattle.mustache_scan.proofs.ReadingLemmas.{enough, reading-step}
use Rattle.mustache_scan.proofs.laws.readings_go_on.Goals as goal

pub returns-clause-step : goal.returns-clause-step
returns-clause-step c = reading-step

pub returns-clause-bound : goal.returns-clause-bound
returns-clause-bound c n d t opens le = enough n (length t) d t opens le (omega arith)
