use Rattle.node.proofs.Ranging.{opens_in_range, stays_in_range, says_messages}
use Rattle.node.proofs.laws.nodes_stay_in_range.Goals as goal

pub returns-clause-opens : goal.returns-clause-opens
returns-clause-opens c = opens_in_range

pub returns-clause-stays : goal.returns-clause-stays
returns-clause-stays c = stays_in_range

pub returns-clause-messages : goal.returns-clause-messages
returns-clause-messages c = says_messages
