use Rattle.std.proofs.Common.{◌≡◌, ℕ, refl, ◌∙◌, ap, arith}
use Rattle.durable.specs.Growing.{with_zeros, length_for}
use Rattle.durable.proofs.GrowsOn.{leaves_all, keeps_all, stays_stored}
use Rattle.durable.proofs.record.Record.grow.Goals as goal

pub returns-in_err-there-clause-failed : goal.returns-in_err-there-clause-failed
returns-in_err-there-clause-failed g c = λ is. (
  λ d entries stored.
      let S = g.D.Disk.stands_for in
      let old = c.args.self.now in
      let was = c.in_err-there.ensures.broken d stored.stands stored.settled in
      (was.0, was.1, leaves_all S old d entries stored was.0 was.2, keeps_all S old d entries stored was.0 was.2 was.3),
  c.if-self.false,
  refl,
)

pub returns-clause-grown : goal.returns-clause-grown
returns-clause-grown g c = λ d entries stored.
    let S = g.D.Disk.stands_for in
    let old = c.args.self.now in
    let was = c.in_ok-there.ensures.done d stored.stands stored.settled in
    let size : c.min-size.result ≡ length_for old.recorded.gate c.args.room = grind (arith, c.min-size.ensures, c.saturating_add.ensures) in (
      was.0,
      stays_stored S old d entries stored c.lengthen.new.disk was.0 was.1 was.2 was.4,
      leaves_all S old d entries stored was.0 was.3,
      λ yes. was.5 yes ∙ ap (λ (n : ℕ). with_zeros d.seen n) size,
    )
