-- What a world reports of its nodes.
use Rattle.std.specs.Prelude.{ℕ, ◌-◌, Option, Some, None, List, [], slice_get}
use Rattle.node.specs.Nodes.{Value, Mode, Up, Stopped, Down}
use Rattle.world.specs.declared.machine.Machine.{Machine}
use Rattle.world.specs.declared.machine.Machine.TheVariants.{Open, Bare}
use Rattle.world.specs.declared.node_state.NodeState.{NodeState}
use Rattle.world.specs.declared.node_state.NodeState.TheVariants as told
use Rattle.world.specs.declared.world.World.{World as Code}

abbrev pub mode_told : NodeState → Mode
mode_told told.Up = Up
mode_told told.Stopped = Stopped
mode_told told.Down = Down

abbrev pub fed_in : Option Machine → List Value
fed_in None = []
fed_in (Some (Open code armed)) = code.releases
fed_in (Some (Bare disk)) = []

-- the values that node p was fed; none if it is down
abbrev pub fed_at : Code → ℕ → List Value
fed_at code p = fed_in (slice_get code.machines.items (p - 1))
