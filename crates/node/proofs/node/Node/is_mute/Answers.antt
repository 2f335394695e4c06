use Rattle.std.proofs.Common.{arith}
use Rattle.node.proofs.Queueing.{le_is}
use Rattle.node.proofs.node.Node.is_mute.Goals as goal

pub returns : goal.returns
returns g c s stands =
    let floor = stands.parts.on_record.kept.floor in
    let test = le_is c.number.result c.floor.result in
    (λ t. let low = test.0 t in omega (arith, low, floor, c.floor.ensures, c.number.ensures.is), λ mute. test.1 (omega (arith, mute, floor, c.floor.ensures, c.number.ensures.is)))
