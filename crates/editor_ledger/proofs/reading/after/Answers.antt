use Rattle.command.proofs.CutLemmas.{strips}
use Rattle.editor_ledger.proofs.reading.after.Goals as goal

pub returns : goal.returns
returns c = strips _ _ _ c.strip_prefix.ensures.cases
