use Rattle.node.proofs.Moving.{never_stuck}
use Rattle.node.proofs.laws.no_call_is_stuck.Goals as goal

pub returns : goal.returns
returns c = never_stuck
