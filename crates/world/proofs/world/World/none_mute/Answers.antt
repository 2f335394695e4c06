use Rattle.std.proofs.Common.{◌≡◌, ◌+◌, ◌≤◌, ℕ, sym, subst, ◌∙◌, refl, arith}
use Rattle.std.proofs.lemmas.Bool.{false≢true}
use Rattle.site_ids.specs.Ids.{IsNode}
use Rattle.node.proofs.Queueing.{is_true, true_is}
use Rattle.world.proofs.Asked.{machine_at}
use Rattle.world.proofs.AllQuiet.{none_spoke, one_speaks}
use Rattle.world.proofs.world.World.none_mute.Goals as goal

pub loop-seen-init : goal.loop-seen-init
loop-seen-init c = record { most = omega arith; speak = none_spoke c.args.self.now c.args.instance }

pub loop-seen-preserved : goal.loop-seen-preserved
loop-seen-preserved c =
    let code = c.args.self.now in
    let k = c.loop-seen.seen in
    let q = c.in-Some.node in
    let at : q ≡ k + 1 = c.in-Some.ensures.0 in
    let one : 1 ≤ q = omega (arith, at) in
    let inside : IsNode code.cluster q = subst (λ (n : ℕ). IsNode n q) c.cluster-cluster.ensures (subst (λ (r : ℕ). IsNode c.cluster-cluster.result r) (sym at) c.in-Some.ensures.1) in
    record {
      most = omega (arith, c.quorum.ensures, c.loop-seen-test.true);
      speak = one_speaks code c.args.instance k q at c.loop-seen.invariant.speak
          (λ w stands run. (c.speaks_at.ensures code.cluster q (w.node q) (machine_at code q c.machine.result.now one c.machine.ensures w stands) (run q inside)).0 (is_true c.speaks_at.result c.if-not-speaks_at.false));
    }

pub returns-in_default : goal.returns-in_default
returns-in_default c = λ w stands run. absurd (c.in_default.ensures (omega arith, omega (arith, c.quorum.ensures, c.loop-seen-test.true)))

pub returns-then-not-speaks_at : goal.returns-then-not-speaks_at
returns-then-not-speaks_at c = λ w stands run.
    let code = c.args.self.now in
    let q = c.in-Some.node in
    let at : q ≡ c.loop-seen.seen + 1 = c.in-Some.ensures.0 in
    let one : 1 ≤ q = omega (arith, at) in
    let inside : IsNode code.cluster q = subst (λ (n : ℕ). IsNode n q) c.cluster-cluster.ensures (subst (λ (r : ℕ). IsNode c.cluster-cluster.result r) (sym at) c.in-Some.ensures.1) in
    let told = c.speaks_at.ensures code.cluster q (w.node q) (machine_at code q c.machine.result.now one c.machine.ensures w stands) (run q inside) in
    (λ t. absurd (false≢true t), λ all. absurd (false≢true (sym c.if-not-speaks_at.true ∙ true_is c.speaks_at.result (told.1 (all q (one, omega (arith, at, c.quorum.ensures, c.loop-seen-test.true)))))))

pub returns : goal.returns
returns c w stands run = (λ t q node. c.loop-seen.invariant.speak w stands run q node.0 (let high = node.1 in omega (arith, high, c.quorum.ensures, c.loop-seen-test.false)), λ all. refl)
