-- Which worlds of the definitions a running world stands for.
use Rattle.std.specs.Prelude.{◌≡◌, ◌≢◌, ℕ, suc, Bool, Some, slice_get, ⊤}
use Rattle.site_disk.specs.Model.{DiskState}
use Rattle.site_disk.specs.Memory.{MemoryStandsFor}
use Rattle.site_disk.specs.declared.mem_disk.MemDisk.{MemDisk}
use Rattle.site_ids.specs.Lists.{In}
use Rattle.wire.specs.declared.message.Message.{Message}
use Rattle.wire.specs.Messages.{IsMessage}
use Rattle.durable.specs.Keeping.{Keeps}
use Rattle.node.specs.declared.node.Node.{Node as Running}
use Rattle.node.specs.Nodes.{Down, Node, opened, IsKnownPrefix}
use Rattle.node.specs.Effects.{messages_of}
use Rattle.node.specs.Standing.{IsNodeOf, IsOnDisk}
use Rattle.world.specs.declared.machine.Machine.{Machine}
use Rattle.world.specs.declared.machine.Machine.TheVariants.{Open, Bare}
use Rattle.world.specs.declared.world.World.{World as Code}
use Rattle.world.specs.Worlds.{World}

-- node p of n, running or stopped, over a disk in memory that is armed or not
pub record IsOpen (n p : ℕ) (code : Running MemDisk) (armed : Bool) (s : Node) : Type 0 where
  pub me : code.me ≡ p
  pub cluster : code.cluster ≡ n
  pub stands : IsNodeOf code s
  pub mark : s.armed ≡ armed
  pub state : DiskState
  pub on_disk : IsOnDisk (λ m d. MemoryStandsFor m d) code s state

-- node p of n is down, and the disk keeps its record
pub record IsBare (n p : ℕ) (disk : MemDisk) (s : Node) : Type 0 where
  pub down : s ≡ opened Down s.entries s.in_flight
  pub state : DiskState
  pub stands : MemoryStandsFor disk state
  pub keeps : Keeps p n s.entries s.in_flight state

-- the machine is that of node p of n
abbrev pub IsMachineOf : ℕ → ℕ → Machine → Node → Type 0
IsMachineOf n p (Open code armed) s = IsOpen n p code armed s
IsMachineOf n p (Bare disk) s = IsBare n p disk s

-- the node has published all of the known prefix, or is down
abbrev pub HasPublished : Machine → Node → Type 0
HasPublished (Open code armed) s = IsKnownPrefix s code.releases
HasPublished (Bare disk) s = ⊤

-- Each machine is that of its node, the first one of node 1. The messages are those handed out, and each of
-- them is a message of the cluster's nodes
pub record IsWorldOf (code : Code) (w : World) : Type 0 where
  pub machines : (k : ℕ) (machine : Machine) → slice_get code.machines.items k ≡ Some machine
      → IsMachineOf code.cluster (suc k) machine (w.node (suc k))
  pub sent : w.sent ≡ messages_of code.sent.items
  pub messages : (m : Message) → In w.sent m → IsMessage code.cluster m

-- the node has published all that it knows without a gap, unless it is down
abbrev pub IsPublishedAt : Code → World → ℕ → Type 0
IsPublishedAt code w p = (k : ℕ) (machine : Machine) → p ≡ suc k
    → slice_get code.machines.items k ≡ Some machine → HasPublished machine (w.node p)

-- the node is not down, and has not published all of that
pub record IsUnpublishedAt (code : Code) (w : World) (p : ℕ) : Type 0 where
  pub up : (w.node p).mode ≢ Down
  pub lacks : ¬ IsPublishedAt code w p
