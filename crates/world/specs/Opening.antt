-- What may refuse a restart.
use Rattle.std.specs.Prelude.{◌≡◌, ◌⊎◌, ℕ, suc, Some, slice_get}
use Rattle.site_disk.specs.Model.{DiskState}
use Rattle.site_disk.specs.Memory.{MemoryStandsFor}
use Rattle.durable.specs.Standing.{IsRefusal}
use Rattle.durable.specs.declared.fault.RecordFault.{RecordFault}
use Rattle.durable.specs.declared.fault.RecordFault.TheVariants.{Device, OutOfMemory}
use Rattle.node.specs.Standing.{disk_of}
use Rattle.world.specs.declared.machine.Machine.{Machine}
use Rattle.world.specs.declared.machine.Machine.TheVariants.{Open, Bare}
use Rattle.world.specs.declared.world.World.{World as Code}
use Rattle.world.specs.Standing.{IsWorldOf}
use Rattle.world.specs.Worlds.{World}

-- the disk of a machine stands for the state, whether its node runs, is stopped or is down
abbrev pub HasDisk : Machine → DiskState → Type 0
HasDisk (Open code armed) d = MemoryStandsFor (disk_of code) d
HasDisk (Bare disk) d = MemoryStandsFor disk d

-- only a failed device or a failed allocation is a cause to refuse to open, as node p of n, what the disk
-- shows
abbrev pub OpensUnlessWanting : ℕ → ℕ → DiskState → Type 0
OpensUnlessWanting n p d = (why : RecordFault) → IsRefusal why p n d.seen → (why ≡ Device)
    ⊎ (why ≡ OutOfMemory)

-- this holds at each node of a world, wherever a run has led, even if the run ended at a restart
abbrev pub RecordsOpen : Type 0
RecordsOpen = (code : Code) (w : World) → IsWorldOf code w → (k : ℕ) (machine : Machine)
    → slice_get code.machines.items k ≡ Some machine
    → (d : DiskState) × HasDisk machine d × OpensUnlessWanting code.cluster (suc k) d
