use Rattle.editor_import.proofs.CutLemmas.{split_is}
use Rattle.editor_import.proofs.refresh.cut.Goals as goal

pub returns : goal.returns
returns c = split_is c.args.part.now c.args.text.now c.requires _ c.split_once.ensures.cases
