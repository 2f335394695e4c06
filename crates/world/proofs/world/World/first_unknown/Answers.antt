use Rattle.world.proofs.AllQuiet.{first_is}
use Rattle.world.proofs.world.World.first_unknown.Goals as goal

pub returns : goal.returns
returns c w stands = first_is (w.node c.args.node) c.known.result c.saturating_add.result c.new.result (c.known.ensures.is w stands) c.saturating_add.ensures c.new.ensures
