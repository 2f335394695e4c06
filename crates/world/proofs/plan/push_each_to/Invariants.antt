use Rattle.std.proofs.Common.{◌≡◌, ◌++◌, ◌-◌, ◌≤◌}
use Rattle.world.specs.Quiet.{each_to}
use Rattle.world.proofs.plan.push_each_to.Given as goal

abbrev pub invariant-loop-told : goal.invariant-loop-told
invariant-loop-told l = record { most : l.told ≤ l.count; items : l.events.items ≡ l.initial.events.items ++ each_to l.node l.first l.told }

abbrev pub decreases-loop-told : goal.decreases-loop-told
decreases-loop-told l = l.count - l.told
