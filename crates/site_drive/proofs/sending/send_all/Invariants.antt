use Rattle.std.proofs.Common.{◌≡◌, ◌++◌, ℕ, List, take}
use Rattle.site_ids.specs.Lists.{In}
use Rattle.wire.specs.declared.message.Message.{Message}
use Rattle.wire.specs.Messages.{Fits}
use Rattle.node.specs.declared.to.To.{To}
use Rattle.site_drive.specs.Drives.{sent_of}
use Rattle.site_drive.specs.Sending.{Counted}
use Rattle.site_drive.proofs.sending.send_all.Given as goal

abbrev pub invariant-loop-to : goal.invariant-loop-to
invariant-loop-to g l = record {
  received : (ds : List (List ℕ)) → g.L.Link.received l.fn.link ds → g.L.Link.received l.link ds;
  given : ((x : To × Message) → In l.to-items x → Fits x.1) → (gs : List (ℕ × List ℕ)) → g.L.Link.given l.fn.link gs
      → g.L.Link.given l.link (gs ++ sent_of l.cluster (take l.to-index l.to-items));
  tried : g.L.Link.tried l.link ≡ g.L.Link.tried l.fn.link;
  counted : Counted l.fn.failed l.failed (g.L.Link.failed l.fn.link) (g.L.Link.failed l.link);
}
