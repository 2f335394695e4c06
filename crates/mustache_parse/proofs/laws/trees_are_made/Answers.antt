use Rattle.mustache_parse.proofs.TreeLemmas.{tree-made, makes-one}
use Rattle.mustache_parse.proofs.laws.trees_are_made.Goals as goal

pub returns-clause-made : goal.returns-clause-made
returns-clause-made c = tree-made

pub returns-clause-one : goal.returns-clause-one
returns-clause-one c = makes-one
