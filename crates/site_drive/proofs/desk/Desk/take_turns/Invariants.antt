use Rattle.std.proofs.Common.{◌≡◌, ◌≤◌, ◌-◌, []}
use Rattle.site_drive.specs.Links.{RoseBy}
use Rattle.site_drive.specs.Sending.{Counted}
use Rattle.site_drive.specs.Drives.{Exchanges}
use Rattle.site_drive.specs.Leading.{LeadsTo, StaysWhose}
use Rattle.site_drive.proofs.desk.Desk.take_turns.Given as goal

abbrev pub invariant-loop-made : goal.invariant-loop-made
invariant-loop-made g l = record {
  within : l.made ≤ l.turns;
  few : l.malformed ≤ l.made;
  empty : l.self.outbox.items ≡ [];
  leads : LeadsTo g.D.Disk.stands_for g.L.Link.received g.L.Link.given l.fn.node l.node l.fn.link l.link (Exchanges l.fn.node.cluster l.fn.node.me l.made l.malformed l.node.releases);
  whose : StaysWhose l.fn.node l.node;
  tried : RoseBy l.made (g.L.Link.tried l.fn.link) (g.L.Link.tried l.link);
  counted : Counted l.fn.self.failed l.self.failed (g.L.Link.failed l.fn.link) (g.L.Link.failed l.link);
  counts : g.D.Disk.failed l.node.store.disk ≡ g.D.Disk.failed l.fn.node.store.disk;
}

abbrev pub decreases-loop-made : goal.decreases-loop-made
decreases-loop-made g l = l.turns - l.made
