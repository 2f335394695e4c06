use Rattle.std.proofs.Common.{◌≡◌, ◌≤◌, ◌∙◌, ◌++◌, ℕ, ap, sym, subst, Err, suc, refl, arith}
use Rattle.std.proofs.lemmas.Result.{err_from_is_err_and}
use Rattle.engine_schedule.specs.Simulation.{Takes, to_each}
use Rattle.engine_schedule.specs.Stepping.{moment_of}
use Rattle.engine_schedule.proofs.Simulating.{told_to_none, one_more_told, not_bad, same_fault}
use Rattle.engine_schedule.proofs.simulator.Simulation.deliver_to_all.Goals as goal

pub returns-in_err-take-clause-bad : goal.returns-in_err-take-clause-bad
returns-in_err-take-clause-bad c = λ is n events m.
    let i = c.loop-node.invariant in
    let p = err_from_is_err_and c.from_residual.result c.from_residual.ensures.1 in
    let same = same_fault c.from_residual.result p.0 c.in_err-take.field-0.0 _ p.1 p.2 is in
    let r = (i.told n events m).moment.reached in
    let node = c.in-Some.ensures in
    not_bad c.loop-node.self.world.cluster c.in-Some.node c.args.index c.loop-node.self.world r.world
    (omega (arith, node.0, node.1.0), omega (arith, node.0, node.1.1, i.whose, i.same))
    (omega (arith, c.requires, i.grows)) r.stands (c.in_err-take.ensures.bad (ap Err same) r.world r.stands)

pub loop-node-preserved : goal.loop-node-preserved
loop-node-preserved c =
    let i = c.loop-node.invariant in
    let node : c.in-Some.node ≡ suc i.passed = c.in-Some.ensures.0 ∙ i.number in
    record {
      passed = suc i.passed;
      number = omega (arith, i.number);
      few = omega (arith, c.in-Some.ensures, i.number);
      whose = i.whose;
      same = c.in_ok-take.ensures.whose ∙ i.same;
      settled = c.in_ok-take.ensures.settled ∙ i.settled;
      grows = omega (arith, c.in_ok-take.ensures.grows, i.grows);
      told = λ n events m.
          let told = i.told n events m in
          one_more_told n i.passed c.in-Some.node c.args.index c.args.self.now c.loop-node.self c.take.new.self events node told (c.in_ok-take.ensures.ok n _ told.moment);
    }

pub loop-node-init : goal.loop-node-init
loop-node-init c = record {
  passed = 0;
  number = refl;
  few = omega arith;
  whose = c.cluster-cluster.ensures;
  same = refl;
  settled = refl;
  grows = omega arith;
  told = λ n events m. told_to_none n c.args.index c.args.self.now events m;
}

pub returns-clause-ok : goal.returns-clause-ok
returns-clause-ok c = λ n events m.
    let i = c.loop-node.invariant in
    let past : ¬ (suc i.passed ≤ c.cluster-cluster.result) = λ within. c.in_default.ensures (omega (arith, i.number), subst (λ (k : ℕ). k ≤ c.cluster-cluster.result) (sym i.number) within) in
    let all : i.passed ≡ n = omega (arith, past, i.few) ∙ i.whose ∙ m.whose in
    subst (λ p. Takes n (moment_of c.args.self.now events) (to_each p c.args.index) (moment_of c.loop-node.self (events ++ to_each p c.args.index))) all (i.told n events m)
