use Rattle.http_serve.proofs.OneResource.{names_one}
use Rattle.http_serve.proofs.laws.paths_name_one_resource.Goals as goal

pub returns : goal.returns
returns c = names_one
