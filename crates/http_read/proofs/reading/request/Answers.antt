use Rattle.http_read.specs.Counted.{inside}
use Rattle.http_read.specs.Input.{input_of}
use Rattle.http_read.specs.Requests.{IsCutShort}
use Rattle.http_read.proofs.Answered.{stopped_read, stopped_end}
use Rattle.http_read.proofs.Begun.{shown_before, stops_before, begun_stops, over_ended}
use Rattle.http_read.proofs.reading.request.Goals as goal

pub returns-in_ok-spans-clause-answer : goal.returns-in_ok-spans-clause-answer
returns-in_ok-spans-clause-answer g c =
    shown_before c.read_one.result _ _ (input_of c.read_one.new.inbox (g.R.Read.remaining (inside c.read_one.new.reader)))
    c.in_ok-has_begun.ensures.input c.read_one.ensures.answer

pub returns-in_ok-spans-clause-ended : goal.returns-in_ok-spans-clause-ended
returns-in_ok-spans-clause-ended g c = λ is.
    let some = rw c.if-branch.true at c.in_ok-has_begun.ensures.begun in
    begun_stops _ c.has_begun.new.inbox _ c.in_ok-has_begun.ensures.input some
    (stopped_end c.read_one.result _ _ IsCutShort c.read_one.ensures.stopped c.read_one.ensures.ended is)

pub returns-in_ok-spans-clause-unread : goal.returns-in_ok-spans-clause-unread
returns-in_ok-spans-clause-unread g c = λ is.
    stops_before _ _ _ IsCutShort c.in_ok-has_begun.ensures.input
    (stopped_read c.read_one.result _ _ IsCutShort c.read_one.ensures.stopped is)

pub returns-else-branch-clause-answer : goal.returns-else-branch-clause-answer
returns-else-branch-clause-answer g c =
    let none = rw c.if-branch.false at c.in_ok-has_begun.ensures.begun in
    over_ended _ c.has_begun.new.inbox _ c.in_ok-has_begun.ensures.input none.0 none.1
