use Rattle.std.proofs.Common.{◌∙◌}
use Rattle.std.proofs.lemmas.Result.{err_from_is_err_and}
use Rattle.http_read.specs.Counted.{inside}
use Rattle.http_read.proofs.Answered.{ok_is_no_err}
use Rattle.http_read.proofs.Resumed.{used_more, shown_of_all, stops_short}
use Rattle.http_read.proofs.reading.read_one.Goals as goal

pub returns-in-Some-clause-answer : goal.returns-in-Some-clause-answer
returns-in-Some-clause-answer g c =
    shown_of_all _ c.in-Some.incoming c.loop-progress.progress c.loop-progress.inbox c.advance.new.inbox
    (g.R.Read.remaining (inside c.loop-progress.reader)) c.loop-progress.invariant.used
    (rw c.in-Some.is at c.in_ok-incoming.ensures.whole) (rw c.in-Some.is at c.in_ok-incoming.ensures.begun)

pub loop-progress-preserved : goal.loop-progress-preserved
loop-progress-preserved g c = record {
  used = used_more _ _ c.loop-progress.progress c.advance.new.progress c.loop-progress.inbox c.advance.new.inbox
      (g.R.Read.remaining (inside c.loop-progress.reader)) c.loop-progress.invariant.used
      (rw c.in-None.is at c.in_ok-incoming.ensures.short) c.in_ok-read_more-in-None.ensures.input;
  quiet = c.in_ok-read_more-in-None.ensures.quiet (ok_is_no_err _ _) ∙ c.loop-progress.invariant.quiet;
}

pub returns-in_err-read_more-in-None-clause-stopped : goal.returns-in_err-read_more-in-None-clause-stopped
returns-in_err-read_more-in-None-clause-stopped g c =
    let p = err_from_is_err_and c.from_residual-in_err-read_more-in-None.result c.from_residual-in_err-read_more-in-None.ensures.1 in rw (p.1, p.2) (λ other.
    let unread = c.in_err-read_more-in-None.ensures.unread other in
    stops_short _ c.loop-progress.progress c.advance.new.progress c.loop-progress.inbox c.advance.new.inbox c.read_more.new.self
    (g.R.Read.remaining (inside c.loop-progress.reader)) _ c.loop-progress.invariant.used
    (rw c.in-None.is at c.in_ok-incoming.ensures.short) unread.0 unread.1)
