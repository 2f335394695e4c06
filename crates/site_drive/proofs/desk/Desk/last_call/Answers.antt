use Rattle.std.proofs.Common.{◌≡◌, subst, rules}
use Rattle.node.specs.declared.fault.NodeFault.TheVariants.{InstancesUsedUp}
use Rattle.node.specs.Standing.{ending_by}
use Rattle.site_drive.proofs.Closing.{Ended, whole, used_up, refused}
use Rattle.node.specs.declared.fault.NodeFault.TheVariants.{Device}
use Rattle.site_drive.proofs.Failing.{none_failed, all_fine, none_of}
use Rattle.site_drive.proofs.desk.Desk.last_call.Goals as goal

pub returns-in-Ok-clause-ok : goal.returns-in-Ok-clause-ok
returns-in-Ok-clause-ok g c = whole g.D.Disk.stands_for c.args.node.now c.call.new.node c.args.last c.args.self.now.outbox.items c.call.new.self.outbox.items c.in-Ok.ensures.event

pub returns-in-Err-clause-ok : goal.returns-in-Err-clause-ok
returns-in-Err-clause-ok g c =
    let same : c.in-Err.fault ≡ InstancesUsedUp = search rules in
    used_up g.D.Disk.stands_for c.args.node.now c.call.new.node c.args.last c.args.self.now.outbox.items c.call.new.self.outbox.items
    (subst (λ w. Ended g.D.Disk.stands_for c.args.node.now c.call.new.node c.args.last c.args.self.now.outbox.items c.call.new.self.outbox.items (ending_by w)) same c.in-Err.ensures.event)

pub returns-in-Err-2-clause-fault : goal.returns-in-Err-2-clause-fault
returns-in-Err-2-clause-fault g c =
    refused g.D.Disk.stands_for c.args.node.now c.call.new.node c.args.last c.args.self.now.outbox.items c.call.new.self.outbox.items c.in-Err.fault c.in-Err.ensures.event

pub returns-in-Ok-clause-counts : goal.returns-in-Ok-clause-counts
returns-in-Ok-clause-counts g c = all_fine _ _ _ (none_failed _ _ _ c.in-Ok.ensures.counts)

apart : InstancesUsedUp ≡ Device → ⊥
apart e = cc

pub returns-in-Err-clause-counts : goal.returns-in-Err-clause-counts
returns-in-Err-clause-counts g c =
    let same : c.in-Err.fault ≡ InstancesUsedUp = search rules in
    all_fine _ _ _ (none_of c.in-Err.fault InstancesUsedUp _ _ same apart c.in-Err.ensures.counts)
