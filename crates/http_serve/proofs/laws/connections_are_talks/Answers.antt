use Rattle.http_serve.proofs.Talking.{are_talks}
use Rattle.http_serve.proofs.laws.connections_are_talks.Goals as goal

pub returns : goal.returns
returns g c = are_talks _
