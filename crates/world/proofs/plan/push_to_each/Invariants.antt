use Rattle.std.proofs.Common.{◌≡◌, ◌++◌, ◌-◌, ◌≤◌}
use Rattle.world.specs.Quiet.{to_each, quorum}
use Rattle.world.proofs.plan.push_to_each.Given as goal

abbrev pub invariant-loop-told : goal.invariant-loop-told
invariant-loop-told l = record { most : l.told ≤ quorum l.cluster; small : l.cluster ≤ 9; items : l.events.items ≡ l.initial.events.items ++ to_each l.index 1 l.told }

abbrev pub decreases-loop-told : goal.decreases-loop-told
decreases-loop-told l = quorum l.cluster - l.told
