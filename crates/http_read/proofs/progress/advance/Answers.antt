use Rattle.std.proofs.Common.{List, ℕ, ◌++◌, Some, subst, sym}
use Rattle.http_read.specs.declared.incoming.Incoming.TheVariants as came
use Rattle.http_read.specs.Incoming.{Shows}
use Rattle.http_read.specs.Progress.{Resumes}
use Rattle.http_read.proofs.Resumed.{body_whole, body_refused, body_open, body_kept}
use Rattle.http_read.proofs.progress.advance.Goals as goal

pub returns-in-Ok-Whole-clause-whole : goal.returns-in-Ok-Whole-clause-whole
returns-in-Ok-Whole-clause-whole c =
    subst (λ r. (used : List ℕ) → Resumes c.args.progress.now used → Shows (came.Request r) (Some c.read_on.new.inbox) (used ++ c.args.inbox.now))
    (sym c.into_request.ensures)
    (body_whole c.args.progress.now c.in-Head.begun c.read_on.new.self c.args.inbox.now c.take_begun.new.inbox c.read_on.new.inbox
    (rw c.in-Head.is at c.in_ok-begun.ensures.head) (rw c.in-Ok-Whole.field-0-is at c.in-Ok-Whole.ensures.shows))

pub returns-in-Ok-Refused-clause-whole : goal.returns-in-Ok-Refused-clause-whole
returns-in-Ok-Refused-clause-whole c =
    body_refused c.args.progress.now c.in-Head.begun c.read_on.new.self c.in-Ok-Refused.status
    c.args.inbox.now c.take_begun.new.inbox c.read_on.new.inbox
    (rw c.in-Head.is at c.in_ok-begun.ensures.head) (rw c.in-Ok-Refused.field-0-is at c.in-Ok-Refused.ensures.shows)

pub returns-in-Ok-Open-clause-short : goal.returns-in-Ok-Open-clause-short
returns-in-Ok-Open-clause-short c =
    body_open c.args.progress.now c.in-Head.begun c.read_on.new.self c.args.inbox.now c.take_begun.new.inbox c.read_on.new.inbox
    (rw c.in-Head.is at c.in_ok-begun.ensures.head) (rw c.in-Ok-Open.field-0-is at c.in-Ok-Open.ensures.shows)

pub returns-in-Err-clause-kept : goal.returns-in-Err-clause-kept
returns-in-Err-clause-kept c =
    body_kept c.args.progress.now c.in-Head.begun c.read_on.new.self c.args.inbox.now c.take_begun.new.inbox c.read_on.new.inbox
    (rw c.in-Head.is at c.in_ok-begun.ensures.head) c.in-Err.ensures.kept
