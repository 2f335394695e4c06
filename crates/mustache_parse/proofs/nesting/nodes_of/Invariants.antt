use Rattle.std.proofs.Common.{drop}
use Rattle.mustache_parse.proofs.NestedLemmas.{StandsFor}
use Rattle.mustache_parse.proofs.nesting.nodes_of.Given as goal

abbrev pub invariant-loop-index : goal.invariant-loop-index
invariant-loop-index l = StandsFor l.tokens l.nesting l.leads (drop l.index l.tokens)
