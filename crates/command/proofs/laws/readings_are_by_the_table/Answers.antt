use Rattle.command.proofs.RowLemmas.{row_is_spelled, older_row_stays, new_row_is_of_redirect}
use Rattle.command.proofs.FaultLemmas.{fault_is_least, command_has_none}
use Rattle.command.proofs.WrittenLemmas.{written_holds}
use Rattle.command.proofs.laws.readings_are_by_the_table.Goals as goal

pub returns-clause-row : goal.returns-clause-row
returns-clause-row c = row_is_spelled

pub returns-clause-older : goal.returns-clause-older
returns-clause-older c = older_row_stays

pub returns-clause-newer : goal.returns-clause-newer
returns-clause-newer c = new_row_is_of_redirect

pub returns-clause-least : goal.returns-clause-least
returns-clause-least c = fault_is_least

pub returns-clause-none : goal.returns-clause-none
returns-clause-none c = command_has_none

pub returns-clause-written : goal.returns-clause-written
returns-clause-written c = written_holds
