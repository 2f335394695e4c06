use Rattle.server_pace.proofs.Bounds.{patience_grows}
use Rattle.server_pace.proofs.laws.patience_grows.Goals as goal

pub returns : goal.returns
returns c = patience_grows
