-- A node whose file is longer than what it records.
use Rattle.std.specs.Prelude.{◌≡◌, ℕ, Bool, IsTrue, []}
use Rattle.site_disk.specs.Model.{DiskState, LeavesOnly}
use Rattle.durable.specs.Batches.{KeepsNoneOrAll}
use Rattle.durable.specs.Growing.{with_zeros, length_for}
use Rattle.node.specs.declared.node.Node.{Node as Running}
use Rattle.node.specs.Nodes.{Node}
use Rattle.node.specs.Standing.{IsNodeOf, IsOnDisk, IsEither}

-- The disk has what the node has, as before. If there was room, the file has zeros at its end, up to the
-- length that was asked for. A crash at any moment leaves what the node has
abbrev pub GrowsAt : {D : Type 0} → (D → DiskState → Type 0) → Running D → Running D → ℕ → Bool → Type 0
GrowsAt stands_for old new room there = (s : Node) (d : DiskState) → IsNodeOf old s
    → IsOnDisk stands_for old s d
    → (e : DiskState) × IsOnDisk stands_for new s e × LeavesOnly d e (IsEither old.me old.cluster s s)
    × (IsTrue there → e.seen ≡ with_zeros d.seen (length_for old.store.recorded.gate room))

-- The device failed as the file grew. The disk keeps what the node has on record and nothing else, and a
-- crash at any moment leaves that
abbrev pub LosesNothing : {D : Type 0} → (D → DiskState → Type 0) → Running D → D → Type 0
LosesNothing stands_for old disk = (s : Node) (d : DiskState) → IsNodeOf old s → IsOnDisk stands_for old s d
    → (e : DiskState) × stands_for disk e × LeavesOnly d e (IsEither old.me old.cluster s s)
    × KeepsNoneOrAll old.me old.cluster s.entries [] e
