use Rattle.std.proofs.Common.{◌≡◌, ◌-◌, ◌^◌}
use Rattle.node.specs.Standing.{KeepsOthers}
use Rattle.site_drive.specs.Leading.{NodeLeads}
use Rattle.site_drive.proofs.Calling.{Widening}
use Rattle.site_drive.proofs.desk.Desk.widen_all.Given as goal

abbrev pub invariant-widening : goal.invariant-widening
invariant-widening g l = record {
  so_far : NodeLeads g.D.Disk.stands_for l.fn.node l.node (Widening l.fn.node.cluster l.fn.node.me l.fn.self.outbox.items l.self.outbox.items);
  others : KeepsOthers l.fn.node l.node;
  counted : l.self.failed ≡ l.fn.self.failed;
  delivered : l.self.delivered ≡ l.fn.self.delivered;
  counts : g.D.Disk.failed l.node.store.disk ≡ g.D.Disk.failed l.fn.node.store.disk;
}

-- each attempt takes a round
abbrev pub decreases-widening : goal.decreases-widening
decreases-widening g l = 2 ^ 32 - l.node.store.recorded.round
