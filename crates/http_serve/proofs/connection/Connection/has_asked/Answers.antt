use Rattle.std.proofs.lemmas.Bool.{false≢true}
use Rattle.http_serve.proofs.connection.Connection.has_asked.Goals as goal

pub returns-in-None : goal.returns-in-None
returns-in-None c = (λ t. absurd (false≢true t), λ h. absurd (c.in-None.ensures h.1.0 h.1.1))
