use Rattle.http_serve.proofs.Standing.{talks_stand}
use Rattle.http_serve.proofs.laws.talks_stand.Goals as goal

pub returns : goal.returns
returns g c = talks_stand _
