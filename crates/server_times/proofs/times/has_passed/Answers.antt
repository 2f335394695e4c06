use Rattle.std.proofs.Common.{rules}
use Rattle.server_times.proofs.times.has_passed.Goals as goal

pub returns-in-Some-clause-is : goal.returns-in-Some-clause-is
returns-in-Some-clause-is c = search rules

pub returns-in-Some-clause-rule : goal.returns-in-Some-clause-rule
returns-in-Some-clause-rule c = search rules
