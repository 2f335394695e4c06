-- How far a node with an open batch is ahead of its disk.
use Rattle.std.specs.Prelude.{◌≡◌, None, List, ◌++◌}
use Rattle.site_disk.specs.Model.{DiskState}
use Rattle.durable.specs.Batches.{IsAhead}
use Rattle.durable.specs.Entries.{Entry}
use Rattle.node.specs.declared.node.Node.{Node as Running}
use Rattle.node.specs.Nodes.{Node}

-- the code's memory has the entries of t on record, its disk has those of s. The entries in between are those
-- of the batch, and none is in flight
pub record IsAheadOf {D : Type 0} (stands_for : D → DiskState → Type 0) (code : Running D) (s t : Node)
    (d : DiskState) : Type 0 where
  pub batch : List Entry
  pub entries : t.entries ≡ s.entries ++ batch
  pub before : s.in_flight ≡ None
  pub after : t.in_flight ≡ None
  pub ahead : IsAhead stands_for code.store d s.entries batch

-- after a call that led from t to next, the code is as far ahead as next is, and the disk is as it was
abbrev pub StaysAhead : {D : Type 0} → (D → DiskState → Type 0) → Running D → Running D → Node → Node → Type 0
StaysAhead stands_for old new t next = (s : Node) (d : DiskState) → IsAheadOf stands_for old s t d
    → IsAheadOf stands_for new s next d
