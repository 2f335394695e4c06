use Rattle.std.proofs.Common.{◌≡◌, ◌-◌, ◌≤◌, ℕ, suc, length, [], None, Some}
use Rattle.std.specs.Prelude.{slice_get}
use Rattle.node.specs.Nodes.{Up, opened}
use Rattle.world.specs.declared.machine.Machine.{Machine}
use Rattle.world.specs.Standing.{IsMachineOf}
use Rattle.world.proofs.world.World.new.Given as goal

abbrev pub invariant-loop-me : goal.invariant-loop-me
invariant-loop-me l =
    record {
      few : length l.machines.items ≤ l.cluster;
      small : l.cluster ≤ 9;
      stands : (k : ℕ) (machine : Machine) → slice_get l.machines.items k ≡ Some machine → IsMachineOf l.cluster (suc k) machine (opened Up [] None);
    }

abbrev pub decreases-loop-me : goal.decreases-loop-me
decreases-loop-me l = l.cluster - length l.machines.items
