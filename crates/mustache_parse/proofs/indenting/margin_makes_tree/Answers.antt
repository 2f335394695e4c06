use Rattle.mustache_parse.proofs.MarginTreeLemmas.{margin-tree}
use Rattle.mustache_parse.proofs.indenting.margin_makes_tree.Goals as goal

pub returns : goal.returns
returns c = margin-tree
