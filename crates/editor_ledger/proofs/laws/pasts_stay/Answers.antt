use Rattle.editor_ledger.proofs.Pasts.{pasts_stay}
use Rattle.editor_ledger.proofs.laws.pasts_stay.Goals as goal

pub returns : goal.returns
returns c = pasts_stay
