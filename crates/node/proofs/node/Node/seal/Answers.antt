use Rattle.std.proofs.Common.{ap, Err}
use Rattle.node.proofs.Sealing.{device_below, seals_at, loses_one_of}
use Rattle.node.proofs.node.Node.seal.Goals as goal

pub returns-in_err-seal-clause-lost : goal.returns-in_err-seal-clause-lost
returns-in_err-seal-clause-lost g c = λ device.
    let below = device_below c.from_residual.result c.in_err-seal.field-0.0 c.from_residual.ensures.1 device in
    loses_one_of g.D.Disk.stands_for c.args.self.now c.seal.new.self (c.in_err-seal.ensures.cut_short (ap Err below))

pub returns-clause-sealed : goal.returns-clause-sealed
returns-clause-sealed g c = seals_at g.D.Disk.stands_for c.args.self.now _ c.in_ok-seal.ensures.sealed
