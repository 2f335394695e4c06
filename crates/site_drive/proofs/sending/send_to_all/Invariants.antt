use Rattle.std.proofs.Common.{◌≡◌, ◌≤◌, ◌++◌, ℕ, List, map, ◌-◌}
use Rattle.site_drive.specs.Drives.{up_to}
use Rattle.site_drive.specs.Sending.{Counted}
use Rattle.site_drive.proofs.sending.send_to_all.Given as goal

abbrev pub invariant-loop-number : goal.invariant-loop-number
invariant-loop-number g l = record {
  within : l.number ≤ l.cluster;
  received : (ds : List (List ℕ)) → g.L.Link.received l.fn.link ds → g.L.Link.received l.link ds;
  given : (gs : List (ℕ × List ℕ)) → g.L.Link.given l.fn.link gs → g.L.Link.given l.link (gs ++ map (λ p. (p, l.datagram)) (up_to l.number));
  tried : g.L.Link.tried l.link ≡ g.L.Link.tried l.fn.link;
  counted : Counted l.fn.failed l.failed (g.L.Link.failed l.fn.link) (g.L.Link.failed l.link);
}

abbrev pub decreases-loop-number : goal.decreases-loop-number
decreases-loop-number g l = l.cluster - l.number
