use Rattle.durable.proofs.Keeping.{opening_settles_batch, crash_settles_batch, sync_keeps_batch, never_refused_batch}
use Rattle.durable.proofs.laws.batches_settle.Goals as goal

pub returns-clause-opening : goal.returns-clause-opening
returns-clause-opening c = opening_settles_batch

pub returns-clause-crash : goal.returns-clause-crash
returns-clause-crash c = crash_settles_batch

pub returns-clause-sync : goal.returns-clause-sync
returns-clause-sync c = sync_keeps_batch

pub returns-clause-refused : goal.returns-clause-refused
returns-clause-refused c = never_refused_batch
