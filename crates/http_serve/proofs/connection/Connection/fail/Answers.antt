use Rattle.std.proofs.Common.{rules}
use Rattle.http_serve.proofs.connection.Connection.fail.Goals as goal

pub returns : goal.returns
returns c = search rules
