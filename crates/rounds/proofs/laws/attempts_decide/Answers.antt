use Rattle.rounds.proofs.Apart.{ticks_are_apart}
use Rattle.rounds.proofs.Attempting.{attempt_decides}
use Rattle.rounds.proofs.Heeding.{requests_are_heeded}
use Rattle.rounds.proofs.Highest.{highest_decides}
use Rattle.rounds.proofs.Proposing.{proposal_decides}
use Rattle.rounds.proofs.Raising.{new_is_begun}
use Rattle.rounds.proofs.laws.attempts_decide.Goals as goal

pub returns-clause-highest : goal.returns-clause-highest
returns-clause-highest c = highest_decides c.batches_are_runs.ensures.events c.batches_are_runs.ensures.sealed

pub returns-clause-attempt : goal.returns-clause-attempt
returns-clause-attempt c = attempt_decides c.batches_are_runs.ensures.events c.batches_are_runs.ensures.sealed

pub returns-clause-proposal : goal.returns-clause-proposal
returns-clause-proposal c = proposal_decides c.batches_are_runs.ensures.events
    c.batches_are_runs.ensures.sealed

pub returns-clause-heeded : goal.returns-clause-heeded
returns-clause-heeded c = requests_are_heeded

pub returns-clause-begun : goal.returns-clause-begun
returns-clause-begun c = new_is_begun c.batches_are_runs.ensures.events c.batches_are_runs.ensures.sealed

pub returns-clause-apart : goal.returns-clause-apart
returns-clause-apart c = ticks_are_apart
