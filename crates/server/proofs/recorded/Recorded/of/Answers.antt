use Rattle.std.proofs.Common.{arith}
use Rattle.server.proofs.Recording.{one_on}
use Rattle.server.proofs.recorded.Recorded.of.Goals as goal

pub loop-past-preserved : goal.loop-past-preserved
loop-past-preserved g c = λ s is.
    one_on s c.loop-past.past c.in-Some.instance c.loop-past.recorded c.look_at-recorded.result
    c.in-Some.ensures.0 (omega (arith, c.loop-past-test.true, c.min-past-end.ensures)) (c.look_at-recorded.ensures s is)
    (c.loop-past.invariant s is)
