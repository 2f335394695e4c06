use Rattle.durable.proofs.Keeping.{settled_keeps, crash_settles, opening_settles, sync_keeps}
use Rattle.durable.proofs.laws.in_flight_settles.Goals as goal

pub returns-clause-rest : goal.returns-clause-rest
returns-clause-rest c = settled_keeps

pub returns-clause-crash : goal.returns-clause-crash
returns-clause-crash c = crash_settles

pub returns-clause-opening : goal.returns-clause-opening
returns-clause-opening c = opening_settles

pub returns-clause-sync : goal.returns-clause-sync
returns-clause-sync c = sync_keeps
