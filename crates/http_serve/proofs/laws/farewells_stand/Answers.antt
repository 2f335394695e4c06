use Rattle.http_serve.proofs.Standing.{farewells_stand}
use Rattle.http_serve.proofs.laws.farewells_stand.Goals as goal

pub returns : goal.returns
returns g c = farewells_stand _
