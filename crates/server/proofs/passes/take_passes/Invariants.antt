use Rattle.std.proofs.Common.{◌≡◌, ◌≤◌}
use Rattle.http_read.specs.Bytes.{end_of}
use Rattle.site_drive.specs.Leading.{StaysWhose}
use Rattle.server.specs.Noted.{HasNoted}
use Rattle.server.specs.Passes.{Led, TakesPasses}
use Rattle.server.proofs.passes.take_passes.Given as goal

abbrev pub invariant-loop : goal.invariant-loop
invariant-loop g l = record {
  within : l.counter ≤ l.count;
  leads : Led g.D.Disk.stands_for l.fn.server.served.node l.server.served.node (TakesPasses l.fn.server.served.node.cluster l.fn.server.served.node.me l.counter l.server.served.node.releases);
  whose : StaysWhose l.fn.server.served.node l.server.served.node;
  noted : HasNoted l.options.verbose (end_of g.E.Write.contents l.fn.err l.err);
  counts : g.D.Disk.failed l.server.served.node.store.disk ≡ g.D.Disk.failed l.fn.server.served.node.store.disk;
}
