-- The clauses are computed in Schedules.
use Rattle.world.proofs.Schedules.{duel_is_taken, vote_is_kept, vote_is_lost, gap_is_waited_for, openings_are_taken, last_of_three_is_known, crash_of_three_is_taken}
use Rattle.world.proofs.laws.worked_schedules_are_taken.Goals as goal

pub returns-clause-duel : goal.returns-clause-duel
returns-clause-duel c = duel_is_taken

pub returns-clause-kept : goal.returns-clause-kept
returns-clause-kept c = vote_is_kept

pub returns-clause-lost : goal.returns-clause-lost
returns-clause-lost c = vote_is_lost

pub returns-clause-gap : goal.returns-clause-gap
returns-clause-gap c = gap_is_waited_for

pub returns-clause-openings : goal.returns-clause-openings
returns-clause-openings c = openings_are_taken

pub returns-clause-three : goal.returns-clause-three
returns-clause-three c = last_of_three_is_known

pub returns-clause-crash : goal.returns-clause-crash
returns-clause-crash c = crash_of_three_is_taken
