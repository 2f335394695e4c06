use Rattle.std.proofs.Common.{refl}
use Rattle.std.specs.Fmt.{digits}
use Rattle.http_serve.specs.Replies.{reason}
use Rattle.http_serve.proofs.fixed.FixedReply.head.Goals as goal

pub returns-in-Queued-clause-value : goal.returns-in-Queued-clause-value
unfolding reason digits
returns-in-Queued-clause-value c = rw c.in-Queued.is λ stays. refl

pub returns-in-Already-clause-value : goal.returns-in-Already-clause-value
unfolding reason digits
returns-in-Already-clause-value c = rw c.in-Already.is λ stays. refl

pub returns-in-Busy-clause-value : goal.returns-in-Busy-clause-value
unfolding reason digits
returns-in-Busy-clause-value c = rw c.in-Busy.is λ stays. refl

pub returns-in-Stopped-clause-value : goal.returns-in-Stopped-clause-value
unfolding reason digits
returns-in-Stopped-clause-value c = rw c.in-Stopped.is λ stays. refl
