use Rattle.std.proofs.Common.{◌≡◌, ◌-◌}
use Rattle.node.specs.Standing.{KeepsOthers}
use Rattle.site_drive.specs.Drives.{KeepAll}
use Rattle.site_drive.specs.Leading.{NodeLeads}
use Rattle.site_drive.proofs.calls.keep_each.Given as goal

-- those of the instances so far are kept
abbrev pub invariant-loop-past : goal.invariant-loop-past
invariant-loop-past g l = record {
  so_far : NodeLeads g.D.Disk.stands_for l.fn.node l.node (KeepAll l.fn.node.cluster l.fn.node.me l.fn.first l.past);
  others : KeepsOthers l.fn.node l.node;
  counts : g.D.Disk.failed l.node.store.disk ≡ g.D.Disk.failed l.fn.node.store.disk;
}
