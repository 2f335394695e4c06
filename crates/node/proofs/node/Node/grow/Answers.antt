use Rattle.std.proofs.Common.{ap, Err, refl, sym, rules, ◌∙◌}
use Rattle.node.proofs.Lengthening.{loses_nothing, grows_at}
use Rattle.node.proofs.Sealing.{device_below}
use Rattle.node.proofs.Stepping.{over_another}
use Rattle.node.proofs.node.Node.grow.Goals as goal

pub returns-in_err-grow-clause-lost : goal.returns-in_err-grow-clause-lost
returns-in_err-grow-clause-lost g c = λ device.
    let below = device_below c.from_residual.result c.in_err-grow.field-0.0 c.from_residual.ensures.1 device in
    let failed = c.in_err-grow.ensures.failed (ap Err below) in
    λ s d stands on. loses_nothing g.D.Disk.stands_for c.args.self.now s failed.1 stands c.grow.new.self d failed.0 on

pub returns-clause-grown : goal.returns-clause-grown
returns-clause-grown g c = λ s d stands on.
    grows_at g.D.Disk.stands_for c.args.self.now s c.in_ok-grow.ensures.running.0 stands _ d _ c.in_ok-grow.field-0 refl refl c.in_ok-grow.ensures.grown on

pub returns-clause-same : goal.returns-clause-same
returns-clause-same g c s =
    let running = c.in_ok-grow.ensures.running in
    over_another _ _ s (search rules) (search rules) refl (running.1 ∙ sym running.0) (ap (λ r. r.recorded) c.grow.ensures.same)
