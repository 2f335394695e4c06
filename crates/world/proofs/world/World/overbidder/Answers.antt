use Rattle.std.proofs.Common.{◌≡◌, ◌+◌, ◌≤◌, ℕ, sym, subst, arith}
use Rattle.site_ids.specs.Ids.{IsNode}
use Rattle.durable.specs.Entries.{IsPromise}
use Rattle.world.proofs.Asked.{machine_at}
use Rattle.world.proofs.Overbidders.{none_looked, one_looked, all_looked}
use Rattle.world.proofs.world.World.overbidder.Goals as goal

pub loop-seen-init : goal.loop-seen-init
loop-seen-init c = record { most = omega arith; looked = λ w stands run. none_looked c.args.self.now.cluster w c.args.instance c.args.ballot }

pub loop-seen-preserved : goal.loop-seen-preserved
loop-seen-preserved c =
    let code = c.args.self.now in
    let k = c.loop-seen.seen in
    let q = c.in-Some.node in
    let at : q ≡ k + 1 = c.in-Some.ensures.0 in
    let one : 1 ≤ q = omega (arith, at) in
    record {
      most = omega (arith, c.quorum.ensures, c.loop-seen-test.true);
      looked = λ w stands run.
          let inside : IsNode code.cluster q = subst (λ (n : ℕ). IsNode n q) c.cluster-cluster.ensures (subst (λ (r : ℕ). IsNode c.cluster-cluster.result r) (sym at) c.in-Some.ensures.1) in
          let slot = c.promised.ensures code.cluster q (w.node q) (machine_at code q c.machine.result.now one c.machine.ensures w stands) (run q inside) in
          one_looked code.cluster w c.args.instance c.args.ballot k q c.loop-seen.highest c.or_promised-highest.result c.promised.result at (c.loop-seen.invariant.looked w stands run)
          (subst (λ o. IsPromise (w.node q).entries c.args.instance o) (sym slot.2) slot.1.promise) (omega arith, omega (arith, c.quorum.ensures, c.loop-seen-test.true)) c.or_promised-highest.ensures;
    }

pub returns-in_default : goal.returns-in_default
returns-in_default c = λ w stands run. absurd (c.in_default.ensures (omega arith, omega (arith, c.quorum.ensures, c.loop-seen-test.true)))

pub returns : goal.returns
returns c w stands run = all_looked c.args.self.now.cluster w c.args.instance c.args.ballot c.loop-seen.seen c.loop-seen.highest.node c.loop-seen.highest.ballot (omega (arith, c.quorum.ensures, c.loop-seen-test.false)) (c.loop-seen.invariant.looked w stands run)
