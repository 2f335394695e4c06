use Rattle.std.proofs.Common.{◌∙◌, ap, length, arith, refl, Err}
use Rattle.http_read.specs.declared.fault.ReadFault.TheVariants as fault
use Rattle.http_read.proofs.Answered.{no_memory}
use Rattle.http_read.proofs.Begun.{no_bytes, nothing_stops}
use Rattle.http_read.proofs.reading.has_begun.Goals as goal

pub returns-in-Err-EndedEarly-clause-input : goal.returns-in-Err-EndedEarly-clause-input
returns-in-Err-EndedEarly-clause-input g c =
    let kept = (rw c.in-Err-EndedEarly.field-0-is at c.in-Err-EndedEarly.ensures.unread) (no_memory fault.EndedEarly refl) in
    kept.0

pub returns-in-Err-EndedEarly-clause-begun : goal.returns-in-Err-EndedEarly-clause-begun
returns-in-Err-EndedEarly-clause-begun g c =
    let kept = (rw c.in-Err-EndedEarly.field-0-is at c.in-Err-EndedEarly.ensures.unread) (no_memory fault.EndedEarly refl) in
    (kept.1 ∙ no_bytes _ (omega (arith, ap length c.held.ensures, c.if-held-gt0.false)), c.in-Err-EndedEarly.ensures.ended (ap Err c.in-Err-EndedEarly.field-0-is))

pub returns-in-Err-Read-clause-unread : goal.returns-in-Err-Read-clause-unread
returns-in-Err-Read-clause-unread g c = λ _.
    let kept = (rw c.in-Err-Read.field-0-is at c.in-Err-Read.ensures.unread) (no_memory fault.Read refl) in
    nothing_stops c.args.inbox.now c.read_more.new.self _ _ (no_bytes _ (omega (arith, ap length c.held.ensures, c.if-held-gt0.false))) kept.0 kept.1
