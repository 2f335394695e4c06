use Rattle.site_ids.proofs.BallotLemmas.{one_of_three}
use Rattle.site_ids.proofs.laws.ballots_stand_in_one_order.Goals as goal

pub returns : goal.returns
returns c = one_of_three
