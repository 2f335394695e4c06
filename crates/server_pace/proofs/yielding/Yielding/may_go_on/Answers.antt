use Rattle.std.proofs.Common.{rules}
use Rattle.server_pace.proofs.yielding.Yielding.may_go_on.Goals as goal

pub returns-then-millis-times : goal.returns-then-millis-times
returns-then-millis-times c = search rules
