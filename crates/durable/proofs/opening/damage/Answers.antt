use Rattle.durable.proofs.Logs.{log-none}
use Rattle.durable.proofs.opening.damage.Goals as goal

pub read_items-requires-clause-fresh : goal.read_items-requires-clause-fresh
read_items-requires-clause-fresh g c = record { log = log-none c.args.cluster; gate = c.new-recorded.ensures.gate; kept = c.new-recorded.ensures.kept }
