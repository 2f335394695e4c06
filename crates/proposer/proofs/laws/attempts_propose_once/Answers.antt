use Rattle.proposer.proofs.Taking.{proposes_once}
use Rattle.proposer.proofs.laws.attempts_propose_once.Goals as goal

pub returns : goal.returns
returns c = proposes_once
