use Rattle.std.proofs.Common.{◌+◌, arith}
use Rattle.std.proofs.lemmas.Bool.{false≢true}
use Rattle.node.proofs.Queueing.{le_is}
use Rattle.world.proofs.Turning.{open_in, down_in, not_down_in}
use Rattle.world.proofs.machine.Machine.reaches_below.Goals as goal

pub returns-in-Bare : goal.returns-in-Bare
returns-in-Bare g n p s at = (λ t. absurd (false≢true t), λ told. absurd (told.0 (down_in n p _ _ g.in-Bare.is s at)))

pub returns-in-Open : goal.returns-in-Open
returns-in-Open g n p s at =
    let here = open_in n p _ _ _ g.in-Open.is s at in
    let reach = g.reach.ensures s here.stands in
    let test = le_is (g.reach.result + 64) g.args.floor in
    (λ t. (not_down_in n p _ _ s here, let low = test.0 t in omega (arith, low, reach)), λ told. test.1 (let low = told.1 in omega (arith, low, reach)))
