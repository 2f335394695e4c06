use Rattle.std.proofs.Common.{sym, subst, ◌∙◌}
use Rattle.site_drive.specs.Leading.{IsHeldAs}
use Rattle.site_drive.proofs.Turning.{heard_as, written_back}
use Rattle.site_drive.proofs.desk.Desk.hear.Goals as goal

-- src/turns.rt:24:5
pub returns-in-Ok-clause-heard : goal.returns-in-Ok-clause-heard
returns-in-Ok-clause-heard g c = λ ds h.
    let back = written_back c.args.self.now.datagram.len c.receive.new.buf _ (c.receive.auto.buf ∙ c.as_mut_slice.ensures.len) in
    let r = heard_as (g.L.Link.received c.args.link.now) (g.L.Link.received c.receive.new.self) c.in-Ok.came c.receive.new.buf c.in-Ok.ensures.heard c.in-Ok.ensures.none ds h in
    (r.0, r.1, subst (λ b. IsHeldAs c.in-Ok.came b r.0) (sym back) r.2)
