use Rattle.node.specs.Nodes.{IsMute}
use Rattle.world.proofs.Turning.{open_in, down_in, not_up_too, opposite}
use Rattle.world.proofs.machine.Machine.speaks_at.Goals as goal

pub returns-in-Bare : goal.returns-in-Bare
returns-in-Bare g n p s at up = absurd (not_up_too s.mode (down_in n p _ _ g.in-Bare.is s at) up)

pub returns-in-Open : goal.returns-in-Open
returns-in-Open g n p s at up = opposite g.is_mute.result (IsMute s g.args.instance) (g.is_mute.ensures s (open_in n p _ _ _ g.in-Open.is s at).stands)
