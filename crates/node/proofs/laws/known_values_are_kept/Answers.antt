use Rattle.node.proofs.KeptValues.{keep_leaves_none, known_is_on_record, keep_stays_history}
use Rattle.node.proofs.laws.known_values_are_kept.Goals as goal

pub returns : goal.returns
returns c = record { none = keep_leaves_none; on_record = known_is_on_record; history = keep_stays_history }
