use Rattle.std.proofs.Common.{◌≡◌, ◌+◌, ◌<◌, ◌≤◌, if◌then◌else◌, ℕ, Bool, true, false, List, Some, length, sym, subst, arith, rules}
use Rattle.std.specs.Prelude.{slice_get}
use Rattle.node.proofs.Queueing.{le_is}
use Rattle.world.specs.declared.machine.Machine.{Machine}
use Rattle.world.specs.Worlds.{IsFloor}
use Rattle.world.proofs.Moving.{got_at}
use Rattle.world.proofs.Following.{below_of, past_of}
use Rattle.world.proofs.AllowedFloors.{AreBelow, none_below, one_counted, all_below}
use Rattle.world.proofs.world.World.is_floor.Goals as goal

at_most : (told : Bool) (below seen after : ℕ) → after ≡ (if told then below + 1 else below) → below ≤ seen → after ≤ seen + 1
at_most true below seen after is few = omega (arith, is, few)
at_most false below seen after is few = omega (arith, is, few)

pub loop-machine-init : goal.loop-machine-init
loop-machine-init c = record { within = omega arith; few = omega arith; below = none_below c.args.self.now c.number-at.result }

pub loop-machine-preserved : goal.loop-machine-preserved
loop-machine-preserved c =
    let code = c.args.self.now in
    let l = c.loop-machine in
    let machine = c.in-Some.machine.now in
    let below = below_of _ _ c.in-Some.ensures.lookup.0 in
    let got = subst (λ (xs : List Machine). slice_get xs l.seen ≡ Some machine) c.deref.ensures.value (got_at c.deref.result.now l.seen machine below c.in-Some.ensures.lookup.1) in
    let within : l.seen < length code.machines.items = subst (λ (xs : List Machine). l.seen < length xs) c.deref.ensures.value below in
    record {
      within = omega (arith, within);
      few = at_most c.reaches_below.result l.below l.seen c.counted-below.result c.counted-below.ensures l.invariant.few;
      below = subst (λ (m : ℕ). AreBelow code c.number-at.result (l.seen + 1) m) (sym c.counted-below.ensures) (one_counted code c.number-at.result l.seen l.below machine c.reaches_below.result got c.reaches_below.ensures l.invariant.below);
    }

pub counted-below-requires : goal.counted-below-requires
counted-below-requires c =
    let below = below_of _ _ c.in-Some.ensures.lookup.0 in
    search (rules, arith, below, c.loop-machine.invariant.few)

pub returns : goal.returns
returns c w stands =
    let code = c.args.self.now in
    let l = c.loop-machine in
    let past = past_of _ _ c.in_default.ensures.lookup.0 in
    let test = le_is c.quorum.result l.below in
    let is = c.number-at.ensures.is in
    let told = all_below code c.number-at.result l.seen l.below _ c.number-at.ensures.range (subst (λ (xs : List Machine). length xs ≤ l.seen) c.deref.ensures.value past) l.invariant.within
    ((λ t. let low = test.0 t in omega (arith, low, c.quorum.ensures)), (λ low. test.1 (omega (arith, low, c.quorum.ensures)))) l.invariant.below w stands in
    (λ t. subst (λ (f : ℕ). IsFloor code.cluster w f) is (told.0 t), λ floors. told.1 (subst (λ (f : ℕ). IsFloor code.cluster w f) (sym is) floors))
