-- What a batch of calls leaves on the disk.
use Rattle.site_disk.specs.Model.{DiskState, LeavesOnly}
use Rattle.durable.specs.Batches.{KeepsNoneOrAll}
use Rattle.node.specs.declared.node.Node.{Node as Running}
use Rattle.node.specs.Nodes.{Node}
use Rattle.node.specs.Ahead.{IsAheadOf}
use Rattle.node.specs.Standing.{IsNodeOf, IsOnDisk, IsEither}

-- a batch is opened at the node that is on the disk: no entry is ahead of it yet
abbrev pub BeginsAt : {D : Type 0} → (D → DiskState → Type 0) → Running D → Running D → Type 0
BeginsAt stands_for old new = (s : Node) (d : DiskState) → IsNodeOf old s → IsOnDisk stands_for old s d
    → IsAheadOf stands_for new s s d

-- The disk has what the last node of the batch has. A crash at any moment of the seal leaves what the first
-- node has, or what the last one has
abbrev pub SealsAt : {D : Type 0} → (D → DiskState → Type 0) → Running D → Running D → Type 0
SealsAt stands_for old new = (s t : Node) (d : DiskState) → IsNodeOf old t → IsAheadOf stands_for old s t d
    → (e : DiskState) × IsOnDisk stands_for new t e × LeavesOnly d e (IsEither old.me old.cluster s t)

-- The device failed in the seal. A crash at any moment of it leaves what the first node of the batch has, or
-- what the last one has. The disk keeps that too: the entries of the first node, with all of the batch or
-- with none of it
abbrev pub LosesOneOf : {D : Type 0} → (D → DiskState → Type 0) → Running D → D → Type 0
LosesOneOf stands_for old disk = (s t : Node) (d : DiskState) → (of : IsAheadOf stands_for old s t d)
    → (e : DiskState) × stands_for disk e × LeavesOnly d e (IsEither old.me old.cluster s t)
    × KeepsNoneOrAll old.me old.cluster s.entries of.batch e
