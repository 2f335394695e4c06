use Rattle.std.proofs.Common.{◌≡◌, ◌≤◌, ◌<◌, ◌⊎◌, List, Err, ap, refl, sym, subst, rules}
use Rattle.command.specs.Effective.{effective}
use Rattle.command.specs.Releases.{release_count}
use Rattle.node.specs.Nodes.{Value}
use Rattle.world.proofs.Asked.{down_at, not_down_at, fed_open, answers_at}
use Rattle.world.proofs.world.World.answer.Goals as goal

pub returns-in-Bare-clause-down : goal.returns-in-Bare-clause-down
returns-in-Bare-clause-down c w stands = let one : 1 ≤ c.args.node = search rules in (λ is. down_at c.args.self.now c.args.node c.machine.result.now one c.machine.ensures _ c.in-Bare.is w stands, λ down. refl)

pub returns-in-Bare-clause-none : goal.returns-in-Bare-clause-none
returns-in-Bare-clause-none c w stands = let one : 1 ≤ c.args.node = search rules in (λ is. cc, λ up. absurd (up.0 (down_at c.args.self.now c.args.node c.machine.result.now one c.machine.ensures _ c.in-Bare.is w stands)))

pub returns-in-Ok-clause-ok : goal.returns-in-Ok-clause-ok
returns-in-Ok-clause-ok c = let one : 1 ≤ c.args.node = search rules in answers_at c.args.self.now c.args.node c.machine.result.now one c.machine.ensures _ _ c.in-Open.is c.args.n c.args.path.now _ c.in-Ok.ensures.ok

pub returns-in-Ok-clause-down : goal.returns-in-Ok-clause-down
returns-in-Ok-clause-down c w stands = let one : 1 ≤ c.args.node = search rules in (λ is. cc, λ down. absurd (not_down_at c.args.self.now c.args.node c.machine.result.now one c.machine.ensures _ _ c.in-Open.is w stands down))

pub returns-in-Err-NoSuchRelease-clause-down : goal.returns-in-Err-NoSuchRelease-clause-down
returns-in-Err-NoSuchRelease-clause-down c w stands = let one : 1 ≤ c.args.node = search rules in (λ is. cc, λ down. absurd (not_down_at c.args.self.now c.args.node c.machine.result.now one c.machine.ensures _ _ c.in-Open.is w stands down))

pub returns-in-Err-NoSuchRelease-clause-none : goal.returns-in-Err-NoSuchRelease-clause-none
returns-in-Err-NoSuchRelease-clause-none c w stands =
    let one : 1 ≤ c.args.node = search rules in (
      λ is. (
        not_down_at c.args.self.now c.args.node c.machine.result.now one c.machine.ensures _ _ c.in-Open.is w stands,
        subst (λ (vs : List Value). (c.args.n ≡ 0) ⊎ (release_count (effective vs) < c.args.n)) (sym (fed_open c.args.self.now c.args.node c.machine.result.now one c.machine.ensures _ _ c.in-Open.is))
            (c.in-Err-NoSuchRelease.ensures.none.0 (ap Err c.in-Err-NoSuchRelease.field-0-is)),
      ),
      λ up. refl,
    )

pub returns-in-Err-OutOfMemory-clause-down : goal.returns-in-Err-OutOfMemory-clause-down
returns-in-Err-OutOfMemory-clause-down c w stands = let one : 1 ≤ c.args.node = search rules in (λ is. cc, λ down. absurd (not_down_at c.args.self.now c.args.node c.machine.result.now one c.machine.ensures _ _ c.in-Open.is w stands down))
