use Rattle.acceptor.proofs.StepLemmas.{prepare_steps, proposal_steps}
use Rattle.acceptor.proofs.laws.verdicts_are_steps.Goals as goal

pub returns-clause-prepare : goal.returns-clause-prepare
returns-clause-prepare c = prepare_steps

pub returns-clause-proposal : goal.returns-clause-proposal
returns-clause-proposal c = proposal_steps
