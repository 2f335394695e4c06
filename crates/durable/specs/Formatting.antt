-- How the record is made that takes the place of a lost one. A crash at any moment leaves no record without
-- its floor.
use Rattle.std.specs.Prelude.{◌≡◌, ◌⊎◌, ℕ, ◌+◌, ◌<◌, List, [], ◌∷◌, ◌++◌, length, Result, OnErr, IsErrOf}
use Rattle.site_disk.specs.Model.{DiskState, LeavesOnly}
use Rattle.durable.specs.Append.{IsSettled}
use Rattle.durable.specs.Counts.{CountsFault}
use Rattle.durable.specs.Entries.{Floor}
use Rattle.durable.specs.Items.{summed}
use Rattle.durable.specs.Spelling.{head, blocks}
use Rattle.durable.specs.Standing.{StandsFor, IsNoRecord}
use Rattle.durable.specs.declared.fault.RecordFault.{RecordFault}
use Rattle.durable.specs.declared.fault.RecordFault.TheVariants.{Device, NotARecord}

-- A file with bytes is refused and stays as it is. The only other fault is the device's, and it is counted
pub record FormatsOnlyEmpty {D : Type 0} (stands_for : D → DiskState → Type 0) (failed : D → ℕ) (old new : D)
    (result : Result (Unit {0}) RecordFault) : Type 0 where
  pub untouched : OnErr result ((d : DiskState) → stands_for old d → 0 < length d.seen → stands_for new d)
  pub not_empty : IsErrOf result NotARecord
      → (d : DiskState) → stands_for old d → stands_for new d × (0 < length d.seen)
  pub counts : CountsFault Device result (failed old) (failed new)
  pub others : OnErr result (IsErrOf result NotARecord ⊎ IsErrOf result Device)

-- the head with zeros for its mark: too short for a record, and without the mark
abbrev pub blank_head : ℕ → ℕ → List ℕ
blank_head node cluster = 0 ∷ 0 ∷ 0 ∷ 0 ∷ 0 ∷ 0 ∷ 0 ∷ 0 ∷ node ∷ cluster ∷ []

-- a batch with only the floor: its sum, then the floor after its open gate; then a closed gate
abbrev pub floor_bytes : ℕ → List ℕ
floor_bytes floor = summed (blocks (Floor floor ∷ [])) ++ 0 ∷ []

-- the file is no record yet, or the record with only the floor
abbrev pub IsNoneOrFloor : ℕ → ℕ → ℕ → List ℕ → Type 0
IsNoneOrFloor node cluster floor file = IsNoRecord file ⊎ StandsFor node cluster file (Floor floor ∷ [])

-- The file was empty, and is now the head and the floor, all on the disk, after three writes with a sync
-- after each. A crash at any moment since then leaves no record, or the record with only the floor.
abbrev pub FormatsAbove : {D : Type 0} → (D → DiskState → Type 0) → D → D → ℕ → ℕ → ℕ → Type 0
FormatsAbove stands_for old new node cluster floor = (d : DiskState) → stands_for old d
    → (d.seen ≡ []) × (e : DiskState) × stands_for new e × IsSettled e
    × (e.seen ≡ head node cluster ++ floor_bytes floor) × StandsFor node cluster e.seen (Floor floor ∷ [])
    × LeavesOnly d e (IsNoneOrFloor node cluster floor) × (length e.past ≡ 6 + length d.past)

-- The device failed as an empty file was made that record. The file is no record, or the record with only the
-- floor, without a crash and after a crash at any moment since then.
abbrev pub FormatsInPart : {D : Type 0} → (D → DiskState → Type 0) → D → D → ℕ → ℕ → ℕ → Type 0
FormatsInPart stands_for old new node cluster floor = (d : DiskState) → stands_for old d → d.seen ≡ []
    → (e : DiskState) × stands_for new e × LeavesOnly d e (IsNoneOrFloor node cluster floor)
    × IsNoneOrFloor node cluster floor e.seen
