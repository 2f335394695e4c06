use Rattle.world.proofs.Turning.{armed_at, unarmed_at}
use Rattle.world.proofs.machine.Machine.arm.Goals as goal

pub returns-in-Bare : goal.returns-in-Bare
returns-in-Bare g n p q = unarmed_at n p q g.args.calls _ _ g.in-Bare.is

pub returns-in-Open : goal.returns-in-Open
returns-in-Open g n p q = armed_at n p q g.args.calls _ _ _ _ g.in-Open.is g.arm.ensures.same g.arm.ensures.on_disk g.arm.ensures.others
