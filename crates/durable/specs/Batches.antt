-- A batch: entries that are put in memory first, and later are on the disk together.
use Rattle.std.specs.Prelude.{◌≡◌, ◌≢◌, ◌⊎◌, ℕ, ◌+◌, ◌<◌, nat_lt, if◌then◌else◌, List, [], ◌∷◌, ◌++◌, length}
use Rattle.std.specs.Prelude.{drop, false}
use Rattle.site_ids.specs.declared.TheConstants.{MAX_RECORD}
use Rattle.site_disk.specs.Model.{DiskState, MayLeave, LeavesOnly, moment}
use Rattle.durable.specs.Append.{IsSettled, IsOpenAt}
use Rattle.durable.specs.Entries.{Entry}
use Rattle.durable.specs.Histories.{IsHistory, MayFollow}
use Rattle.durable.specs.Items.{Item, Batch, puts, item_blocks}
use Rattle.durable.specs.Spelling.{blocks, behind_gate}
use Rattle.durable.specs.Standing.{StandsFor}
use Rattle.durable.specs.Reading.{IsKept}
use Rattle.durable.specs.Ready.{IsReady}
use Rattle.durable.specs.declared.record.Record.{Record}
use Rattle.durable.specs.declared.staged.Staged.{Staged}

-- a batch is open: what waits ends with a closed gate at least
abbrev pub IsBatchOpen : {D : Type 0} → Record D → Type 0
IsBatchOpen store = 0 < length store.staged.bytes.items

-- what a seal writes: the entries after their sum, or without a sum if the file has no room for it after the
-- gate
abbrev pub sealed_items : ℕ → List Entry → List Item
sealed_items gate batch = if nat_lt MAX_RECORD (gate + 19) then puts batch else Batch batch ∷ []

-- what is written after a closed gate for items: their blocks except the first gate, and the next closed one
abbrev pub behind_gates : List Item → List ℕ
behind_gates items = drop 1 (item_blocks items ++ 0 ∷ [])

-- how many writes and syncs of the disk a batch takes
abbrev pub calls_for : List Entry → ℕ
calls_for [] = 0
calls_for (entry ∷ batch) = 4

-- the file stands for the earlier entries; the blocks of the batch, which may follow them, wait after room
-- for a sum; the gate is the one at which they would end
pub record Waits (node cluster : ℕ) (file : List ℕ) (earlier batch : List Entry) (gate : ℕ)
    (staged : Staged) : Type 0 where
  pub stands : StandsFor node cluster file earlier
  pub history : IsHistory cluster (earlier ++ batch)
  pub waiting : drop 18 staged.bytes.items ≡ blocks batch ++ 0 ∷ []
  pub base : batch ≢ [] → staged.base ≡ 10 + length (item_blocks stands.items)
  pub ends : gate ≡ 10 + length (item_blocks stands.items) + length (blocks batch)

-- the record runs and a batch is open: all of the file is on the disk, and the batch waits
pub record IsStaged {D : Type 0} (stands_for : D → DiskState → Type 0) (store : Record D) (d : DiskState)
    (earlier batch : List Entry) : Type 0 where
  pub stands : stands_for store.disk d
  pub settled : IsSettled d
  pub waits : Waits store.node store.cluster d.seen earlier batch store.recorded.gate store.staged
  pub running : store.stopped ≡ false

-- and its memory is ahead of the disk: it keeps what the entries record together with the batch
pub record IsAhead {D : Type 0} (stands_for : D → DiskState → Type 0) (store : Record D) (d : DiskState)
    (earlier batch : List Entry) : Type 0 where
  pub staged : IsStaged stands_for store d earlier batch
  pub kept : IsKept (earlier ++ batch) store.recorded

-- the file stands for the earlier entries, with all of the batch or with none of it
abbrev pub IsNoneOrAll : ℕ → ℕ → List Entry → List Entry → List ℕ → Type 0
IsNoneOrAll node cluster earlier batch file = StandsFor node cluster file earlier
    ⊎ StandsFor node cluster file (earlier ++ batch)

-- the disk keeps the earlier entries and perhaps the batch: that is read without a crash, and after any crash
pub record KeepsNoneOrAll (node cluster : ℕ) (earlier batch : List Entry) (d : DiskState) : Type 0 where
  pub read : IsNoneOrAll node cluster earlier batch d.seen
  pub left : (left : List ℕ) → MayLeave (moment d) left → IsNoneOrAll node cluster earlier batch left

-- a batch was opened, and nothing is in it
abbrev pub Begins : {D : Type 0} → (D → DiskState → Type 0) → Record D → Record D → Type 0
Begins stands_for old new = (d : DiskState) (entries : List Entry) → IsReady stands_for old d entries
    → IsAhead stands_for new d entries []

-- the bytes were taken into the batch. If they are an entry's, it waits with the others
abbrev pub Stages : {D : Type 0} → (D → DiskState → Type 0) → Record D → Record D → List ℕ → Type 0
Stages stands_for old new bytes = (d : DiskState) (earlier batch : List Entry) (entry : Entry)
    → IsStaged stands_for old d earlier batch → MayFollow old.cluster (earlier ++ batch) entry
    → bytes ≡ behind_gate entry
    → IsStaged stands_for new d earlier (batch ++ entry ∷ [])

-- the batch has one more entry
abbrev pub GoesAhead : {D : Type 0} → (D → DiskState → Type 0) → Record D → Record D → Entry → Type 0
GoesAhead stands_for old new entry = (d : DiskState) (earlier batch : List Entry)
    → IsAhead stands_for old d earlier batch → IsAhead stands_for new d earlier (batch ++ entry ∷ [])

-- The record is ready with all of the batch. That took two writes and two syncs for any number of entries,
-- and no call for no entry. At the gate on the disk are its blocks after their sum, and the next closed gate.
-- A crash at any moment since then leaves the earlier entries, with all of the batch or with none of it.
abbrev pub Seals : {D : Type 0} → (D → DiskState → Type 0) → Record D → Record D → Type 0
Seals stands_for old new = (d : DiskState) (earlier batch : List Entry)
    → IsAhead stands_for old d earlier batch
    → (e : DiskState) × IsReady stands_for new e (earlier ++ batch)
    × LeavesOnly d e (IsNoneOrAll old.node old.cluster earlier batch)
    × (length e.past ≡ calls_for batch + length d.past)
    × (batch ≢ []
    → IsOpenAt old.staged.base d.seen (behind_gates (sealed_items old.recorded.gate batch)) e.seen)

-- The device failed as the batch was written. The earlier entries stay, with all of the batch or with none of
-- it, without a crash and after a crash at any moment since then.
abbrev pub LeavesBatch : {D : Type 0} → (D → DiskState → Type 0) → Record D → Record D → Type 0
LeavesBatch stands_for old new = (d : DiskState) (earlier batch : List Entry)
    → IsAhead stands_for old d earlier batch
    → (e : DiskState) × stands_for new.disk e
    × LeavesOnly d e (IsNoneOrAll old.node old.cluster earlier batch)
    × KeepsNoneOrAll old.node old.cluster earlier batch e
