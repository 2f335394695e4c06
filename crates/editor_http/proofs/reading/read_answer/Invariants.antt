use Rattle.std.proofs.Common.{◌≡◌, ◌-◌, length}
use Rattle.std.specs.Io.KnownBytes.{prepend_known, Keeps}
use Rattle.http_read.specs.Counted.{inside, failed}
use Rattle.editor_http.proofs.reading.read_answer.Given as goal

abbrev pub invariant-loop-answer : goal.invariant-loop-answer
invariant-loop-answer g l =
    Keeps (prepend_known l.fn.feed (g.R.Read.remaining (inside l.fn.reader))) (prepend_known l.feed (g.R.Read.remaining (inside l.reader)))
    × (failed l.reader ≡ failed l.fn.reader)

abbrev pub decreases-loop-answer : goal.decreases-loop-answer
decreases-loop-answer g l = 2200000 - length l.feed
