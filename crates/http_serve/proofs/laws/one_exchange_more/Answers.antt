use Rattle.http_serve.proofs.Standing.{one_more}
use Rattle.http_serve.proofs.laws.one_exchange_more.Goals as goal

pub returns : goal.returns
returns g c = one_more _
