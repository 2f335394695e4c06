use Rattle.http_read.proofs.Stages.{trailer_open, trailer_refused}
use Rattle.http_read.proofs.body.Body.step.Goals as goal

pub returns-in-Open-clause-shows : goal.returns-in-Open-clause-shows
returns-in-Open-clause-shows c =
    trailer_open c.args.self.now _ _ c.in-Trailer.is (rw c.in-Open.is at c.in_ok-pass_trailer-in-Trailer.ensures.shows)

pub returns-in-Refused-clause-shows : goal.returns-in-Refused-clause-shows
returns-in-Refused-clause-shows c =
    trailer_refused c.args.self.now c.in-Refused.status c.args.inbox.now c.pass_trailer.new.inbox c.in-Trailer.is
    (rw c.in-Refused.is at c.in_ok-pass_trailer-in-Trailer.ensures.shows)
