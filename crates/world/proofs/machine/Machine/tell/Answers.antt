use Rattle.std.proofs.Common.{refl}
use Rattle.node.specs.declared.to.To.TheVariants.{All}
use Rattle.node.specs.Calls.{tell as calling}
use Rattle.world.proofs.Turning.{taken_at, wanted_at}
use Rattle.world.proofs.machine.Machine.tell.Goals as goal

pub returns-in-Open-clause-ok : goal.returns-in-Open-clause-ok
returns-in-Open-clause-ok g = taken_at _ (calling All g.args.first) _ _ _ _ _ _ _ g.in-Open.is g.tell.ensures.event (record { me = refl; cluster = refl; releases = refl }) g.passed.ensures.ok

pub returns-in-Open-clause-err : goal.returns-in-Open-clause-err
returns-in-Open-clause-err g = wanted_at _ (calling All g.args.first) _ _ _ _ _ _ _ g.in-Open.is g.tell.ensures.event (record { me = refl; cluster = refl; releases = refl }) g.passed.ensures.err
