use Rattle.std.proofs.Common.{◌++◌, map, subst, ◌∙◌}
use Rattle.site_drive.specs.Drives.{up_to}
use Rattle.site_drive.proofs.Counting.{counted_on}
use Rattle.site_drive.proofs.Giving.{next_to}
use Rattle.site_drive.proofs.sending.send_to_all.Goals as goal

-- src/sending.rt:40:5
pub loop-number-preserved : goal.loop-number-preserved
loop-number-preserved g c = record {
  within = (c.in-Some.ensures).1.1;
  received = λ ds h. c.send_to.ensures.received ds (c.loop-number.invariant.received ds h);
  given = λ gs h.
      let earlier = gs ++ map (λ p. (p, c.args.datagram.now)) (up_to c.loop-number.number) in
      subst (g.L.Link.given c.send_to.new.link) (next_to c.loop-number.number c.in-Some.to c.args.datagram.now gs (c.in-Some.ensures).0)
      (c.send_to.ensures.given earlier (c.loop-number.invariant.given gs h));
  tried = c.send_to.ensures.tried ∙ c.loop-number.invariant.tried;
  counted = counted_on _ _ _ _ _ _ c.loop-number.invariant.counted c.send_to.ensures.counted;
}
