use Rattle.std.proofs.Common.{ap, arith}
use Rattle.std.proofs.lemmas.Bool.{false≢true}
use Rattle.site_ids.specs.Ids.{BallotOf}
use Rattle.node.proofs.Queueing.{le_is}
use Rattle.world.proofs.machine.Machine.has_two_rounds.Goals as goal

pub returns-in-Some : goal.returns-in-Some
returns-in-Some g n p s at up =
    let round = ap (λ (b : BallotOf). b.round) (g.in-Some.ensures n p s at up).0 in
    let test = le_is g.round.result 4294967294 in
    (λ t. let low = test.0 t in omega (arith, low, round, g.round.ensures.is), λ low. test.1 (omega (arith, low, round, g.round.ensures.is)))

pub returns-in-None : goal.returns-in-None
returns-in-None g n p s at up = (λ t. absurd (false≢true t), λ low. absurd (g.in-None.ensures n p s at up (omega (arith, low))))
