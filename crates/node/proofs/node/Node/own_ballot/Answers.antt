use Rattle.std.proofs.Common.{◌≡◌, ◌+◌, ◌<◌, subst}
use Rattle.std.specs.Prelude.{max}
use Rattle.site_ids.specs.Ids.{BallotOf}
use Rattle.site_ids.specs.declared.TheConstants.{MAX_ROUND}
use Rattle.node.proofs.node.Node.own_ballot.Goals as goal

pub returns-in-Ok : goal.returns-in-Ok
returns-in-Ok g c =
    let proposer = c.args.self.now.proposer in
    let next : BallotOf = c.in-Ok.ballot in
    subst (λ round. (next ≡ record { round = max round proposer.heard + 1; node = proposer.me }) × (max round proposer.heard < MAX_ROUND)) c.round.ensures c.in-Ok.ensures
