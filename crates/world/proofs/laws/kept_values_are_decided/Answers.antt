use Rattle.world.proofs.Agreed.{keeps_decided}
use Rattle.world.proofs.laws.kept_values_are_decided.Goals as goal

pub returns : goal.returns
returns c = keeps_decided
