use Rattle.std.proofs.Common.{[]}
use Rattle.node.specs.Calls.{submit as submission}
use Rattle.world.proofs.Turning.{taken_at, wanted_at}
use Rattle.world.proofs.machine.Machine.submit.Goals as goal

pub returns-in-Open-clause-ok : goal.returns-in-Open-clause-ok
returns-in-Open-clause-ok g = taken_at _ (submission g.args.value.now) _ _ _ _ _ [] [] g.in-Open.is g.submit.ensures.event g.submit.ensures.others g.passed.ensures.ok

pub returns-in-Open-clause-err : goal.returns-in-Open-clause-err
returns-in-Open-clause-err g = wanted_at _ (submission g.args.value.now) _ _ _ _ _ [] [] g.in-Open.is g.submit.ensures.event g.submit.ensures.others g.passed.ensures.err
