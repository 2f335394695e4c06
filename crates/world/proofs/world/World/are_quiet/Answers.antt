use Rattle.std.proofs.Common.{◌≡◌, ◌<◌, ◌≤◌, List, Some, length, subst}
use Rattle.std.specs.Prelude.{slice_get}
use Rattle.world.specs.declared.machine.Machine.{Machine}
use Rattle.world.proofs.Moving.{got_at}
use Rattle.world.proofs.Following.{below_of, past_of}
use Rattle.world.proofs.AllQuiet.{one_more, one_is_not, none_seen, all_seen}
use Rattle.world.proofs.world.World.are_quiet.Goals as goal

pub returns-then-not-is_quiet : goal.returns-then-not-is_quiet
returns-then-not-is_quiet c =
    let code = c.args.self.now in
    let k = c.loop-machine.seen in
    let machine = c.in-Some.machine.now in
    let below = below_of _ _ c.in-Some.ensures.lookup.0 in
    let got = subst (λ (l : List Machine). slice_get l k ≡ Some machine) c.deref.ensures.value (got_at c.deref.result.now k machine below c.in-Some.ensures.lookup.1) in
    one_is_not code k machine c.is_quiet.result got c.is_quiet.ensures c.if-not-is_quiet.true (subst (λ (l : List Machine). k < length l) c.deref.ensures.value below)

pub loop-machine-init : goal.loop-machine-init
loop-machine-init c = none_seen c.args.self.now

pub loop-machine-preserved : goal.loop-machine-preserved
loop-machine-preserved c =
    let code = c.args.self.now in
    let k = c.loop-machine.seen in
    let machine = c.in-Some.machine.now in
    let below = below_of _ _ c.in-Some.ensures.lookup.0 in
    let got = subst (λ (l : List Machine). slice_get l k ≡ Some machine) c.deref.ensures.value (got_at c.deref.result.now k machine below c.in-Some.ensures.lookup.1) in
    one_more code k machine c.is_quiet.result got c.is_quiet.ensures c.loop-machine.invariant c.if-not-is_quiet.false

pub returns : goal.returns
returns c =
    let past = past_of _ _ c.in_default.ensures.lookup.0 in
    all_seen c.args.self.now c.loop-machine.seen (subst (λ (l : List Machine). length l ≤ c.loop-machine.seen) c.deref.ensures.value past) c.loop-machine.invariant
