-- The floor that a server's command line gives is one of the definitions.
use Rattle.std.specs.Prelude.{◌≢◌, ℕ, ◌≤◌, List}
use Rattle.site_ids.specs.Lists.{In}
use Rattle.durable.specs.Entries.{reach_of}
use Rattle.node.specs.Nodes.{Down}
use Rattle.server_floor.specs.Floors.{IsFloorAbove}
use Rattle.server_floor.specs.declared.told.Told.{Told}
use Rattle.world.specs.Worlds.{World, IsFloor}

-- each of these nodes runs or is stopped in the world, and its record reaches no further than what is
-- reported of it
abbrev pub AreTold : World → List Told → Type 0
AreTold w told = (t : Told) → In told t → ((w.node t.node).mode ≢ Down)
    × (reach_of (w.node t.node).entries ≤ t.reach)

-- the floor that is 64 above them may be that of node p in this world
abbrev pub FloorsAreAllowed : Type 0
FloorsAreAllowed = (n p floor : ℕ) (told : List Told) (w : World) → IsFloorAbove n p told floor
    → AreTold w told → IsFloor n w floor
