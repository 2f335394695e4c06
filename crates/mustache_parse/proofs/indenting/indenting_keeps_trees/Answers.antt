use Rattle.mustache_parse.proofs.IndentingLemmas.{indents-pieces, keeps-trees, nothing-to_indent}
use Rattle.mustache_parse.proofs.indenting.indenting_keeps_trees.Goals as goal

pub returns-clause-pieces : goal.returns-clause-pieces
returns-clause-pieces c = indents-pieces

pub returns-clause-trees : goal.returns-clause-trees
returns-clause-trees c = keeps-trees

pub returns-clause-nothing : goal.returns-clause-nothing
returns-clause-nothing c = nothing-to_indent
