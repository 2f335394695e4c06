use Rattle.std.proofs.Common.{[]}
use Rattle.node.specs.Calls.{keep as keeping}
use Rattle.world.proofs.Turning.{taken_at, wanted_at}
use Rattle.world.proofs.machine.Machine.keep.Goals as goal

pub returns-in-Open-clause-ok : goal.returns-in-Open-clause-ok
returns-in-Open-clause-ok g = taken_at _ (keeping g.args.instance) _ _ _ _ _ [] [] g.in-Open.is g.keep.ensures.event g.keep.ensures.others g.passed.ensures.ok

pub returns-in-Open-clause-err : goal.returns-in-Open-clause-err
returns-in-Open-clause-err g = wanted_at _ (keeping g.args.instance) _ _ _ _ _ [] [] g.in-Open.is g.keep.ensures.event g.keep.ensures.others g.passed.ensures.err
