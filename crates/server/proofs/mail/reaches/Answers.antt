use Rattle.std.proofs.Common.{rules}
use Rattle.server.proofs.mail.reaches.Goals as goal

pub returns-in-All : goal.returns-in-All
returns-in-All c = search rules
