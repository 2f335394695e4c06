-- What holds of files and disks that keep a record.
use Rattle.std.specs.Prelude.{◌≡◌, ◌⊎◌, ℕ, Option, None, List, [], ◌∷◌, ◌++◌}
use Rattle.site_disk.specs.Model.{DiskState, Moment, MayLeave, LeavesOnly, moment, at_rest, after_sync}
use Rattle.durable.specs.Append.{IsSettled}
use Rattle.durable.specs.Entries.{Entry, Floor}
use Rattle.durable.specs.Standing.{StandsFor, IsNoRecord, IsOfAnother, IsDamaged}
use Rattle.durable.specs.Keeping.{Settles, IsFound, Keeps}
use Rattle.durable.specs.Batches.{IsNoneOrAll, KeepsNoneOrAll}
use Rattle.durable.specs.Formatting.{IsNoneOrFloor}

-- a file stands for one list of entries at most
abbrev pub OneList : Type 0
OneList = (node cluster : ℕ) (file : List ℕ) (a b : List Entry) → StandsFor node cluster file a
    → StandsFor node cluster file b → a ≡ b

-- a disk at rest keeps exactly the entries that are read from it
abbrev pub SettledKeeps : Type 0
SettledKeeps = (node cluster : ℕ) (entries : List Entry) (d : DiskState) → IsSettled d
    → StandsFor node cluster d.seen entries → Keeps node cluster entries None d

-- a crash settles whether the entry in flight is on record
abbrev pub CrashSettles : Type 0
CrashSettles =
    (node cluster : ℕ) (entries : List Entry) (in_flight : Option Entry) (d : DiskState) (left : List ℕ)
    → Keeps node cluster entries in_flight d → MayLeave (moment d) left
    → (found : List Entry) × Settles entries in_flight found
    × ((past : List Moment) → Keeps node cluster found None (at_rest left past))

-- an opening without a crash settles it too
abbrev pub OpeningSettles : Type 0
OpeningSettles =
    (node cluster : ℕ) (entries : List Entry) (in_flight : Option Entry) (d : DiskState) (found : List Entry)
    → Keeps node cluster entries in_flight d → StandsFor node cluster d.seen found
    → Settles entries in_flight found

-- an opening that is refused keeps what the disk kept, and so does a crash at any moment of it
abbrev pub SyncKeeps : Type 0
SyncKeeps = (node cluster : ℕ) (entries : List Entry) (in_flight : Option Entry) (d : DiskState)
    → Keeps node cluster entries in_flight d
    → Keeps node cluster entries in_flight (after_sync d)
    × LeavesOnly d (after_sync d) (IsFound node cluster entries in_flight)

-- nothing in the bytes of a disk that keeps a record is a reason to refuse it
abbrev pub NeverRefused : Type 0
NeverRefused = (node cluster : ℕ) (entries : List Entry) (in_flight : Option Entry) (d : DiskState)
    → Keeps node cluster entries in_flight d
    → (¬ IsNoRecord d.seen) × (¬ IsOfAnother node cluster d.seen) × (¬ IsDamaged node cluster d.seen)

-- what an opening reads after the device failed as a batch was sealed: only the earlier entries, or also all
-- of the batch
abbrev pub OpeningSettlesBatch : Type 0
OpeningSettlesBatch = (node cluster : ℕ) (earlier batch : List Entry) (d : DiskState) (found : List Entry)
    → KeepsNoneOrAll node cluster earlier batch d → StandsFor node cluster d.seen found
    → (found ≡ earlier) ⊎ (found ≡ earlier ++ batch)

-- a crash settles which of these, and the disk keeps that and nothing else
abbrev pub CrashSettlesBatch : Type 0
CrashSettlesBatch = (node cluster : ℕ) (earlier batch : List Entry) (d : DiskState) (left : List ℕ)
    → KeepsNoneOrAll node cluster earlier batch d → MayLeave (moment d) left
    → (found : List Entry) × ((found ≡ earlier) ⊎ (found ≡ earlier ++ batch))
    × ((past : List Moment) → Keeps node cluster found None (at_rest left past))

-- an opening that is refused keeps what the disk may keep, and so does a crash at any moment of it
abbrev pub SyncKeepsBatch : Type 0
SyncKeepsBatch = (node cluster : ℕ) (earlier batch : List Entry) (d : DiskState)
    → KeepsNoneOrAll node cluster earlier batch d
    → KeepsNoneOrAll node cluster earlier batch (after_sync d)
    × LeavesOnly d (after_sync d) (IsNoneOrAll node cluster earlier batch)

-- nothing in the bytes of such a disk is a reason to refuse it
abbrev pub NeverRefusedBatch : Type 0
NeverRefusedBatch = (node cluster : ℕ) (earlier batch : List Entry) (d : DiskState)
    → KeepsNoneOrAll node cluster earlier batch d
    → (¬ IsNoRecord d.seen) × (¬ IsOfAnother node cluster d.seen) × (¬ IsDamaged node cluster d.seen)

-- a file that a format above a floor may leave stands only for the floor, or for nothing: never for a record
-- without a floor
abbrev pub FloorStays : Type 0
FloorStays = (node cluster floor : ℕ) (file : List ℕ) (entries : List Entry)
    → IsNoneOrFloor node cluster floor file → StandsFor node cluster file entries → entries ≡ Floor floor ∷ []
