use Rattle.http_serve.proofs.Standing.{alone_is_served}
use Rattle.http_serve.proofs.laws.a_talk_alone_is_served.Goals as goal

pub returns : goal.returns
returns g c = alone_is_served _
