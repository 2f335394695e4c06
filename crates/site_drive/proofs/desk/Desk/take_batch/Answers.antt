use Rattle.std.proofs.Common.{Ok, subst}
use Rattle.site_drive.specs.Delivering.{NotesBatch}
use Rattle.site_drive.proofs.desk.Desk.take_batch.Goals as goal

pub returns-in-Err-clause-ends : goal.returns-in-Err-clause-ends
returns-in-Err-clause-ends g c =
    let e = c.in-Err.ensures.ends in record { ok = e.ok; fault = e.fault; whose = e.whose; counts = e.counts }

pub returns-in-Ok-clause-noted : goal.returns-in-Ok-clause-noted
returns-in-Ok-clause-noted g c =
    subst (λ d. NotesBatch c.args.node.now.cluster c.args.came.now d c.take_with_room.new.self.delivered (Ok c.in-Ok.malformed)) c.none-self.ensures c.in-Ok.ensures.noted
