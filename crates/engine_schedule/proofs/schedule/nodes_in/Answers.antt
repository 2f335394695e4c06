use Rattle.engine_schedule.proofs.ScheduleLemmas.{no_nodes_yet, bad_nodes}
use Rattle.engine_schedule.proofs.schedule.nodes_in.Goals as goal

pub returns-in_default : goal.returns-in_default
returns-in_default c = no_nodes_yet c.args.bytes.now c.in_default.ensures

pub returns-in-None : goal.returns-in-None
returns-in-None c = bad_nodes c.args.bytes.now _ _ c.in-Some.ensures c.in-None.ensures
