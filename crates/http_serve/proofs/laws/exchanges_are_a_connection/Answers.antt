use Rattle.http_serve.proofs.Connecting.{are_connection}
use Rattle.http_serve.proofs.laws.exchanges_are_a_connection.Goals as goal

pub returns : goal.returns
returns g c = are_connection _
