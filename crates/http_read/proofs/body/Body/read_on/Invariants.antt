use Rattle.std.proofs.Common.{◌+◌, ◌≤◌, length}
use Rattle.http_read.specs.BodyProgress.{GoesOn, left_of, steps_left}
use Rattle.http_read.proofs.body.Body.read_on.Given as goal

abbrev pub invariant-loop-read : goal.invariant-loop-read
invariant-loop-read l = record {
  goes_on : GoesOn l.fn.self l.self l.fn.inbox l.inbox;
  bound : length l.fn.inbox + left_of l.self ≤ length l.inbox + left_of l.fn.self;
}

abbrev pub decreases-loop-read : goal.decreases-loop-read
decreases-loop-read l = steps_left l.self.awaits l.inbox
