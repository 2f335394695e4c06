use Rattle.std.proofs.Common.{◌≡◌, ◌≤◌, map, take}
use Rattle.node.specs.Standing.{KeepsOthers}
use Rattle.site_drive.specs.Delivering.{AreNoted}
use Rattle.site_drive.specs.Leading.{NodeLeads}
use Rattle.site_drive.proofs.Batching.{TakenSoFar}
use Rattle.site_drive.proofs.desk.Desk.take_each.Given as goal

abbrev pub invariant-loop-datagram : goal.invariant-loop-datagram
invariant-loop-datagram g l = record {
  leads : NodeLeads g.D.Disk.stands_for l.fn.node l.node (TakenSoFar g.D.Disk.stands_for l.fn.node.cluster l.fn.node.me (map (λ d. d.items) (take l.datagram-index l.came)) l.malformed l.self.outbox.items);
  noted : AreNoted l.fn.node.cluster (map (λ d. d.items) (take l.datagram-index l.came)) l.fn.self.delivered l.self.delivered;
  few : l.malformed ≤ l.datagram-index;
  others : KeepsOthers l.fn.node l.node;
  counts : g.D.Disk.failed l.node.store.disk ≡ g.D.Disk.failed l.fn.node.store.disk;
}
