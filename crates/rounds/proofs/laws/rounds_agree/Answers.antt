use Rattle.rounds.proofs.Agreeing.{rounds_answer_alike, rounds_know_same, rounds_know_submitted}
use Rattle.rounds.proofs.Agreeing.{start_is_led_to}
use Rattle.rounds.proofs.Ordering.{schedules_say_messages}
use Rattle.rounds.proofs.Scheduling.{rounds_are_runs}
use Rattle.rounds.proofs.laws.rounds_agree.Goals as goal

pub returns-clause-runs : goal.returns-clause-runs
returns-clause-runs c = rounds_are_runs c.batches_are_runs.ensures.events c.batches_are_runs.ensures.sealed

pub returns-clause-messages : goal.returns-clause-messages
returns-clause-messages c = schedules_say_messages

pub returns-clause-same : goal.returns-clause-same
returns-clause-same c = rounds_know_same c.batches_are_runs.ensures.events c.batches_are_runs.ensures.sealed

pub returns-clause-alike : goal.returns-clause-alike
returns-clause-alike c = rounds_answer_alike c.batches_are_runs.ensures.events
    c.batches_are_runs.ensures.sealed

pub returns-clause-submitted : goal.returns-clause-submitted
returns-clause-submitted c = rounds_know_submitted c.batches_are_runs.ensures.events
    c.batches_are_runs.ensures.sealed

pub returns-clause-start : goal.returns-clause-start
returns-clause-start c = start_is_led_to
