-- When a record is in order, and for which entries.
use Rattle.std.specs.Prelude.{◌≡◌, ℕ, ◌+◌, List, [], length, false}
use Rattle.site_disk.specs.Model.{DiskState, after_sync}
use Rattle.durable.specs.Append.{IsSettled}
use Rattle.durable.specs.Entries.{Entry}
use Rattle.durable.specs.Histories.{IsHistory}
use Rattle.durable.specs.Items.{item_blocks}
use Rattle.durable.specs.Standing.{StandsFor}
use Rattle.durable.specs.Reading.{IsKept}
use Rattle.durable.specs.Slots.{cell_at}
use Rattle.durable.specs.declared.record.Record.{Record}

-- the file stands for the entries, and its items end at the gate
pub record StandsUpTo (node cluster : ℕ) (file : List ℕ) (entries : List Entry) (gate : ℕ) : Type 0 where
  pub stands : StandsFor node cluster file entries
  pub ends : gate ≡ 10 + length (item_blocks stands.items)

-- the record runs, its file stands for these entries, all of it is on the disk, and no batch is open
pub record IsStored {D : Type 0} (stands_for : D → DiskState → Type 0) (store : Record D) (d : DiskState)
    (entries : List Entry) : Type 0 where
  pub stands : stands_for store.disk d
  pub settled : IsSettled d
  pub reads : StandsUpTo store.node store.cluster d.seen entries store.recorded.gate
  pub running : store.stopped ≡ false
  pub none_staged : store.staged.bytes.items ≡ []

-- and what it keeps in memory is what they record
pub record IsReady {D : Type 0} (stands_for : D → DiskState → Type 0) (store : Record D) (d : DiskState)
    (entries : List Entry) : Type 0 where
  pub stored : IsStored stands_for store d entries
  pub kept : IsKept entries store.recorded

-- at most the room for a slot, or for what waits in a batch, has changed, which cannot be seen
pub record IsUnchanged {D : Type 0} (old new : Record D) : Type 0 where
  pub same : new ≡ record old {
    recorded = record old.recorded { slots = new.recorded.slots };
    staged = new.staged;
  }
  pub staged : new.staged.bytes.items ≡ old.staged.bytes.items
  pub base : new.staged.base ≡ old.staged.base
  pub slots : (i : ℕ) → cell_at new.recorded.slots i ≡ cell_at old.recorded.slots i

-- what an opened record keeps in memory is what these entries record, over any disk; if the disk stood for a
-- state, they are the entries of its file
pub record IsOpened {D : Type 0} (stands_for : D → DiskState → Type 0) (disk : D) (store : Record D)
    (entries : List Entry) : Type 0 where
  pub history : IsHistory store.cluster entries
  pub kept : IsKept entries store.recorded
  pub running : store.stopped ≡ false
  pub none_staged : store.staged.bytes.items ≡ []
  pub ready : (d : DiskState) → stands_for disk d → IsReady stands_for store (after_sync d) entries
