use Rattle.std.proofs.Common.{rules}
use Rattle.render.proofs.output.Output.charge.Goals as goal

pub returns-then-cost-self : goal.returns-then-cost-self
returns-then-cost-self c = search rules
