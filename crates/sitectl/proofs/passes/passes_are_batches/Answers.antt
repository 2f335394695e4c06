use Rattle.sitectl.proofs.PassCalls.{work_is_calls, step_is_calls, given_up_is_calls, calls_are_a_batch}
use Rattle.sitectl.proofs.passes.passes_are_batches.Goals as goal

pub returns-clause-work : goal.returns-clause-work
returns-clause-work c = work_is_calls

pub returns-clause-step : goal.returns-clause-step
returns-clause-step c = step_is_calls

pub returns-clause-given_up : goal.returns-clause-given_up
returns-clause-given_up c = given_up_is_calls

pub returns-clause-batch : goal.returns-clause-batch
returns-clause-batch c = calls_are_a_batch c.batches_are_runs.ensures.events c.batches_are_runs.ensures.sealed c.batches_are_runs.ensures.crash
