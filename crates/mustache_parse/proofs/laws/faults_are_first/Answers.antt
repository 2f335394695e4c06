use Rattle.mustache_parse.proofs.TreeLemmas.{fault-first}
use Rattle.mustache_parse.proofs.laws.faults_are_first.Goals as goal

pub returns : goal.returns
returns c = fault-first
