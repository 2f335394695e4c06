use Rattle.site_ids.proofs.MajorityLemmas.{share_a_node, all_are_many}
use Rattle.site_ids.proofs.laws.majorities_share_a_node.Goals as goal

pub returns-clause-share : goal.returns-clause-share
returns-clause-share c = share_a_node

pub returns-clause-some : goal.returns-clause-some
returns-clause-some c = all_are_many
