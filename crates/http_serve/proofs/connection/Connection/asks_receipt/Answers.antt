use Rattle.std.proofs.Common.{rules}
use Rattle.http_serve.proofs.Fronts.{connection_asks}
use Rattle.http_serve.proofs.connection.Connection.asks_receipt.Goals as goal

pub returns : goal.returns
returns c = connection_asks c.args.self.now c.held.result.now c.receipt_asked.result (search rules) (search rules) c.held.ensures c.receipt_asked.ensures
