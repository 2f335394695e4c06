use Rattle.mustache_parse.proofs.BlankLemmas.{indents-blank}
use Rattle.mustache_parse.proofs.indenting.indents_are_blank.Goals as goal

pub returns : goal.returns
returns c = indents-blank
