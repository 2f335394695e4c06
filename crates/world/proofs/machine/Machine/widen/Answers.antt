use Rattle.node.specs.Calls.{widen as calling}
use Rattle.world.proofs.Turning.{taken_at, wanted_at}
use Rattle.world.proofs.machine.Machine.widen.Goals as goal

pub returns-in-Open-clause-ok : goal.returns-in-Open-clause-ok
returns-in-Open-clause-ok g = taken_at _ calling _ _ _ _ _ _ _ g.in-Open.is g.widen.ensures.event g.widen.ensures.others g.passed.ensures.ok

pub returns-in-Open-clause-err : goal.returns-in-Open-clause-err
returns-in-Open-clause-err g = wanted_at _ calling _ _ _ _ _ _ _ g.in-Open.is g.widen.ensures.event g.widen.ensures.others g.passed.ensures.err
