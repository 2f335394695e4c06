use Rattle.world.proofs.Turning.{ok_of, freshly_open}
use Rattle.world.proofs.machine.Machine.fresh.Goals as goal

pub returns-in-Ok : goal.returns-in-Ok
returns-in-Ok g =
    let made = ok_of g.format.result g.if-is_err.ensures.value g.format.ensures.formatted _ g.new-disk.ensures.state in
    freshly_open g.args.cluster g.args.me _ _ made.1 made.2 made.3 made.5 g.in-Ok.ensures.opened g.in-Ok.ensures.whose.0 g.in-Ok.ensures.whose.1
