use Rattle.http_read.proofs.Longer.{stands}
use Rattle.http_read.proofs.laws.answer_stands.Goals as goal

pub returns : goal.returns
returns c = stands _
