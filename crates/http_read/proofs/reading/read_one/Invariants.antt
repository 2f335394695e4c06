use Rattle.std.proofs.Common.{◌≡◌, ◌-◌, length}
use Rattle.http_read.specs.Counted.{inside, failed}
use Rattle.http_read.specs.Input.{input_of}
use Rattle.http_read.specs.Progress.{bytes_left}
use Rattle.http_read.proofs.Resumed.{HasUsed}
use Rattle.http_read.proofs.reading.read_one.Given as goal

abbrev pub invariant-loop-progress : goal.invariant-loop-progress
invariant-loop-progress g l = record {
  used : HasUsed (input_of l.fn.inbox (g.R.Read.remaining (inside l.fn.reader)))
      (input_of l.inbox (g.R.Read.remaining (inside l.reader))) l.progress;
  quiet : failed l.reader ≡ failed l.fn.reader;
}

abbrev pub decreases-loop-progress : goal.decreases-loop-progress
decreases-loop-progress g l = bytes_left l.progress - length l.inbox
