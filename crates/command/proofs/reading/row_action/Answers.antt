use Rattle.std.proofs.Common.{ap}
use Rattle.command.specs.Action.{release}
use Rattle.command.specs.Reading.{row_reading}
use Rattle.command.specs.View.{row_view}
use Rattle.command.proofs.reading.row_action.Goals as goal

pub returns-in-Release-clause-ok : goal.returns-in-Release-clause-ok
returns-in-Release-clause-ok c = (release, ap (λ row. row_reading (row_view row)) c.in-Release.is, tt)
