use Rattle.editor_ledger.proofs.Spellings.{spells_one}
use Rattle.editor_ledger.proofs.laws.files_keep_ledgers.Goals as goal

pub returns : goal.returns
returns c = spells_one
