use Rattle.std.proofs.Common.{Some, take, subst}
use Rattle.site_drive.specs.Drives.{BreaksOff}
use Rattle.site_drive.specs.Leading.{IsHeldAs, NodeLeads, TakesIn}
use Rattle.site_drive.proofs.Results.{ok_gives, errs_give}
use Rattle.site_drive.proofs.Turning.{took_some, broke_some}
use Rattle.site_drive.proofs.desk.Desk.take_in.Goals as goal

pub returns-clause-taken : goal.returns-clause-taken
returns-clause-taken g c = ok_gives c.deliver_datagram.result c.deliver_datagram.ensures.taken λ malformed leads h is.
    let buffer = c.args.self.now.datagram.items in
    let before = c.args.self.now.outbox.items in
    let after = c.deliver_datagram.new.outbox.items in
    took_some g.D.Disk.stands_for c.args.node.now c.deliver_datagram.new.node buffer c.args.self.now.room c.in-Some.n c.args.node.now.cluster c.args.node.now.me malformed before after
    (subst (λ b. NodeLeads g.D.Disk.stands_for c.args.node.now c.deliver_datagram.new.node (TakesIn c.args.node.now.cluster c.args.node.now.me (Some (take c.in-Some.n b)) malformed before after)) c.deref.ensures.value leads)
    h (subst (λ k. IsHeldAs k buffer h) c.in-Some.is is)

pub returns-clause-broken : goal.returns-clause-broken
returns-clause-broken g c = errs_give c.deliver_datagram.result c.deliver_datagram.ensures.broken λ why leads h is.
    let buffer = c.args.self.now.datagram.items in
    broke_some g.D.Disk.stands_for c.args.node.now c.deliver_datagram.new.node buffer c.args.self.now.room c.in-Some.n c.args.node.now.cluster c.args.node.now.me why
    (subst (λ b. NodeLeads g.D.Disk.stands_for c.args.node.now c.deliver_datagram.new.node (λ s next. BreaksOff c.args.node.now.cluster c.args.node.now.me s (take c.in-Some.n b) why next)) c.deref.ensures.value leads)
    h (subst (λ k. IsHeldAs k buffer h) c.in-Some.is is)
