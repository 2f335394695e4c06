-- A record whose file is longer than what it records.
use Rattle.std.specs.Prelude.{◌≡◌, ℕ, ◌+◌, ◌-◌, min, List, ◌++◌, length, replicate, Bool, IsTrue, None}
use Rattle.site_ids.specs.declared.TheConstants.{MAX_RECORD}
use Rattle.site_disk.specs.Model.{DiskState, LeavesOnly}
use Rattle.durable.specs.Entries.{Entry}
use Rattle.durable.specs.Keeping.{IsFound, Keeps}
use Rattle.durable.specs.Ready.{IsStored}
use Rattle.durable.specs.declared.record.Record.{Record}

-- these bytes, and any after them
abbrev pub GoesOnAs : List ℕ → List ℕ → Type 0
GoesOnAs before file = (more : List ℕ) × (file ≡ before ++ more)

-- these bytes, and then zeros up to this length
abbrev pub with_zeros : List ℕ → ℕ → List ℕ
with_zeros file size = file ++ replicate (size - length file) 0

-- how long a file with this much room after the gate is; at most the greatest length of a record
abbrev pub length_for : ℕ → ℕ → ℕ
length_for gate room = min MAX_RECORD (gate + room)

-- The file stands for the same entries, and all of it is on the disk. If there was room, it has zeros at its
-- end, up to the length that was asked for. A crash at any moment leaves the entries.
abbrev pub Grows : {D : Type 0} → (D → DiskState → Type 0) → Record D → Record D → ℕ → Bool → Type 0
Grows stands_for old new size there = (d : DiskState) (entries : List Entry)
    → IsStored stands_for old d entries
    → (e : DiskState) × IsStored stands_for new e entries
    × LeavesOnly d e (IsFound old.node old.cluster entries None)
    × (IsTrue there → e.seen ≡ with_zeros d.seen size)

-- The device failed. The disk keeps the entries, and a crash at any moment since then leaves them.
abbrev pub KeepsAll : {D : Type 0} → (D → DiskState → Type 0) → Record D → Record D → Type 0
KeepsAll stands_for old new = (d : DiskState) (entries : List Entry) → IsStored stands_for old d entries
    → (e : DiskState) × stands_for new.disk e
    × LeavesOnly d e (IsFound old.node old.cluster entries None)
    × Keeps old.node old.cluster entries None e
