use Rattle.durable.proofs.Prefix.{stands_for_one}
use Rattle.durable.proofs.laws.files_stand_for_one_list.Goals as goal

pub returns : goal.returns
returns c = stands_for_one
