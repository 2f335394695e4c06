use Rattle.world.proofs.Together.{together_shows, round_is_taken, telling_reaches}
use Rattle.world.proofs.laws.running_nodes_learn_together.Goals as goal

pub returns-clause-shows : goal.returns-clause-shows
returns-clause-shows c = together_shows

pub returns-clause-taken : goal.returns-clause-taken
returns-clause-taken c = round_is_taken

pub returns-clause-reaches : goal.returns-clause-reaches
returns-clause-reaches c = telling_reaches
