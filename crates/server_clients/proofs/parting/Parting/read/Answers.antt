use Rattle.std.proofs.Common.{rules}
use Rattle.server_clients.proofs.parting.Parting.read.Goals as goal

pub returns : goal.returns
returns g c = (c.read_on.ensures, search rules)
