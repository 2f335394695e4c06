use Rattle.world.proofs.ReplacedWorked.{replaced_votes}
use Rattle.world.proofs.laws.worked_replacement_is_taken.Goals as goal

pub returns : goal.returns
returns c = replaced_votes
