use Rattle.std.proofs.Common.{ap, Err, suc, arith, refl}
use Rattle.std.proofs.lemmas.Result.{err_from_is_err_and}
use Rattle.engine_schedule.proofs.Simulating.{same_fault, settled_none, settled_more}
use Rattle.engine_schedule.proofs.simulator.Simulation.settle.Goals as goal

pub returns-in_err-deliver_to_all-clause-bad : goal.returns-in_err-deliver_to_all-clause-bad
returns-in_err-deliver_to_all-clause-bad c = λ is n events m.
    let p = err_from_is_err_and c.from_residual.result c.from_residual.ensures.1 in
    let same = same_fault c.from_residual.result p.0 c.in_err-deliver_to_all.field-0.0 _ p.1 p.2 is in
    c.in_err-deliver_to_all.ensures.bad (ap Err same) n _ (c.loop-index.invariant.delivered n events m).moment

pub loop-index-preserved : goal.loop-index-preserved
loop-index-preserved c =
    let i = c.loop-index.invariant in
    record {
      count = suc i.count;
      here = omega (arith, i.here);
      settled = refl;
      delivered = λ n events m.
          let delivered = i.delivered n events m in
          settled_more n c.args.self.now.settled i.count c.loop-index.index c.args.self.now c.loop-index.self _ _ _ events i.here delivered (c.in_ok-deliver_to_all.ensures.ok n _ delivered.moment);
    }

pub loop-index-init : goal.loop-index-init
loop-index-init c = record { count = 0; here = omega arith; settled = refl; delivered = λ n events m. settled_none n c.args.self.now.settled c.args.self.now events m }
