use Rattle.std.proofs.Common.{rules}
use Rattle.learner.proofs.tally.Tally.is_of.Goals as goal

pub returns-then-eq : goal.returns-then-eq
returns-then-eq c = search rules
