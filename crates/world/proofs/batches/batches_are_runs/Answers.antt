use Rattle.world.proofs.Batching.{calls_are_events, others_come_first, sealed_is_a_run, crash_is_a_run, opening_is_a_run, batches_agree}
use Rattle.world.proofs.BatchesOnDisk.{calls_go_on, left_before, left_sealed, left_failed, opened_over}
use Rattle.world.proofs.BatchWorked.{some_batch_is_taken}
use Rattle.world.proofs.Senders.{says_itself}
use Rattle.world.proofs.batches.batches_are_runs.Goals as goal

pub returns-clause-events : goal.returns-clause-events
returns-clause-events g c = calls_are_events

pub returns-clause-says : goal.returns-clause-says
returns-clause-says g c = says_itself

pub returns-clause-others : goal.returns-clause-others
returns-clause-others g c = others_come_first

pub returns-clause-sealed : goal.returns-clause-sealed
returns-clause-sealed g c = sealed_is_a_run

pub returns-clause-crash : goal.returns-clause-crash
returns-clause-crash g c = crash_is_a_run

pub returns-clause-opening : goal.returns-clause-opening
returns-clause-opening g c = opening_is_a_run

pub returns-clause-agree : goal.returns-clause-agree
returns-clause-agree g c = batches_agree

pub returns-clause-call : goal.returns-clause-call
returns-clause-call g c = calls_go_on g.D.Disk.stands_for

pub returns-clause-before : goal.returns-clause-before
returns-clause-before g c = left_before g.D.Disk.stands_for

pub returns-clause-seal : goal.returns-clause-seal
returns-clause-seal g c = left_sealed g.D.Disk.stands_for

pub returns-clause-failure : goal.returns-clause-failure
returns-clause-failure g c = left_failed g.D.Disk.stands_for

pub returns-clause-over : goal.returns-clause-over
returns-clause-over g c = opened_over g.D.Disk.stands_for

pub returns-clause-some : goal.returns-clause-some
returns-clause-some g c = some_batch_is_taken
