use Rattle.command.proofs.CutLemmas.{splits}
use Rattle.editor_ledger.proofs.head.cut.Goals as goal

pub returns : goal.returns
returns c = splits _ _ _ c.split_once.ensures.cases c.requires
