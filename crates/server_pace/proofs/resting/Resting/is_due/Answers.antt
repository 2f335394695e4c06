use Rattle.std.proofs.Common.{rules}
use Rattle.server_pace.proofs.resting.Resting.is_due.Goals as goal

pub returns-then-not-self-2 : goal.returns-then-not-self-2
returns-then-not-self-2 c = search rules
