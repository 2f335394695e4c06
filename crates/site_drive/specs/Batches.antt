-- A batch: all that came is delivered, and then comes the last call. What they put on record is on the disk
-- before anything that they hand out is sent.
use Rattle.std.specs.Prelude.{◌≡◌, ◌≢◌, ◌⊎◌, ℕ, List, ◌∷◌, ◌++◌, map, Some, Result, IfOk, IfErr}
use Rattle.site_disk.specs.Model.{DiskState, LeavesOnly}
use Rattle.wire.specs.declared.message.Message.{Message}
use Rattle.durable.specs.Batches.{KeepsNoneOrAll}
use Rattle.durable.specs.Entries.{Entry}
use Rattle.node.specs.declared.fault.NodeFault.{NodeFault}
use Rattle.node.specs.declared.fault.NodeFault.TheVariants as fault
use Rattle.node.specs.declared.node.Node.{Node as Running}
use Rattle.node.specs.declared.to.To.{To}
use Rattle.node.specs.Nodes.{Node, Stopped, IsKnownPrefix}
use Rattle.node.specs.Standing.{IsNodeOf, IsOnDisk, IsEither, StaysOnDisk, CountsDevice, ending_by, disk_of}
use Rattle.node.specs.Standing.{failures, HasStopped}
use Rattle.site_drive.specs.declared.last_call.LastCall.{LastCall}
use Rattle.site_drive.specs.Drives.{TakesAll, EndsLast, EndsTurns, BreaksOff}
use Rattle.site_drive.specs.Leading.{AllFit, StaysWhose}

-- ---- deliveries and calls, before anything is sent

-- these datagrams are delivered, one after another, as in turns
abbrev pub TakesEach : ℕ → ℕ → List (List ℕ) → ℕ → List (To × Message) → Node → Node → Type 0
TakesEach n p came malformed out s next = TakesAll n p s (map Some came) malformed out next

-- these deliveries, and then the last call. What all of them hand out waits
pub record Works (last : LastCall) (n p : ℕ) (came : List (List ℕ)) (malformed : ℕ) (out : List (To
    × Message)) (s next : Node) : Type 0 where
  pub mid : Node
  pub first : List (To × Message)
  pub then : List (To × Message)
  pub takes : TakesEach n p came malformed first s mid
  pub ends : EndsTurns last n p mid then next
  pub fits : AllFit out
  pub out_is : out ≡ first ++ then

-- given up in a delivery: those before it are whole, and this one broke off
pub record GivesUpTaking (n p : ℕ) (came : List (List ℕ)) (why : NodeFault) (s next : Node) : Type 0 where
  pub front : List (List ℕ)
  pub bytes : List ℕ
  pub behind : List (List ℕ)
  pub came_is : came ≡ front ++ bytes ∷ behind
  pub mid : Node
  pub malformed : ℕ
  pub out : List (To × Message)
  pub takes : TakesEach n p front malformed out s mid
  pub breaks : BreaksOff n p mid bytes why next

-- given up after all deliveries: the last call ended by this fault, which is not ignored
pub record GivesUpCall (last : LastCall) (n p : ℕ) (came : List (List ℕ)) (why : NodeFault)
    (s next : Node) : Type 0 where
  pub mid : Node
  pub malformed : ℕ
  pub first : List (To × Message)
  pub then : List (To × Message)
  pub takes : TakesEach n p came malformed first s mid
  pub ends : EndsLast last n p mid (ending_by why) then next
  pub other : why ≢ fault.InstancesUsedUp

abbrev pub GivesUpWork : LastCall → ℕ → ℕ → List (List ℕ) → NodeFault → Node → Node → Type 0
GivesUpWork last n p came why s next = GivesUpTaking n p came why s next
    ⊎ GivesUpCall last n p came why s next

-- the work of a batch, whole, or given up, or not begun
abbrev pub HasWorked : LastCall → ℕ → ℕ → List (List ℕ) → Node → Node → Type 0
HasWorked last n p came s next =
    ((malformed : ℕ) × (out : List (To × Message)) × Works last n p came malformed out s next)
    ⊎ ((why : NodeFault) × GivesUpWork last n p came why s next)
    ⊎ (next ≡ s)

-- ---- a batch that is sealed

-- The node goes on in this way, and all that was put is on the disk. A crash at any moment leaves what was
-- there before, or all of it
pub record LeadsSealed {D : Type 0} (stands_for : D → DiskState → Type 0) (old new : Running D) (How : Node
    → Node → Type 0) : Type 0 where
  pub leads : (s : Node) → IsNodeOf old s → (next : Node) × How s next × IsNodeOf new next
      × StaysOnDisk stands_for old new s next

-- a whole batch, after which all that is known without a gap is published. What it handed out may be sent
pub record TakesBatch (last : LastCall) (n p : ℕ) (came : List (List ℕ)) (malformed : ℕ) (out : List (To
    × Message)) (fed : List (List ℕ)) (s next : Node) : Type 0 where
  pub works : Works last n p came malformed out s next
  pub fed_is : IsKnownPrefix next fed

-- given up. The batch was not begun, because the node is stopped or an allocation failed; or its work is
-- given up; or an allocation failed as the node published
abbrev pub GivesUpBatch : LastCall → ℕ → ℕ → List (List ℕ) → NodeFault → Node → Node → Type 0
GivesUpBatch last n p came why s next =
    ((why ≡ fault.Stopped) × (s.mode ≡ Stopped) × (next ≡ s))
    ⊎ GivesUpWork last n p came why s next
    ⊎ ((why ≡ fault.OutOfMemory) × ((next ≡ s)
    ⊎ ((malformed : ℕ) × (out : List (To × Message)) × Works last n p came malformed out s next)))

-- ---- a batch that is lost

-- the disk keeps what was there before, with all that was put since or with none of it, whether it crashes or
-- not. That holds at any moment of the batch
abbrev pub LeavesEither : {D : Type 0} → (D → DiskState → Type 0) → Running D → Running D → Node → Node
    → Type 0
LeavesEither stands_for old new s t = (d : DiskState) → IsOnDisk stands_for old s d
    → (e : DiskState) × stands_for (disk_of new) e × LeavesOnly d e (IsEither old.me old.cluster s t)
    × ((batch : List Entry) × (t.entries ≡ s.entries ++ batch)
    × KeepsNoneOrAll old.me old.cluster s.entries batch e)

-- The device failed. The node is stopped, and only the next opening shows whether the result of its work is
-- on the disk
pub record LosesBatch {D : Type 0} (stands_for : D → DiskState
    → Type 0) (last : LastCall) (came : List (List ℕ)) (old new : Running D) : Type 0 where
  pub loses : (s : Node) → IsNodeOf old s → (t : Node) × HasWorked last old.cluster old.me came s t
      × HasStopped new × LeavesEither stands_for old new s t

-- ---- how it ends

-- the device failed, or the node is stopped
abbrev pub IsStop : NodeFault → Type 0
IsStop why = (why ≡ fault.Device) ⊎ (why ≡ fault.Stopped)

-- The batch is whole, and what it handed out waits to be sent; or it is given up, and sealed; or it is lost.
-- The node stays the same, and a failure of the device is reported
pub record EndsBatch {D : Type 0} (stands_for : D → DiskState → Type 0) (device : D
    → ℕ) (last : LastCall) (came : List (List ℕ)) (out : List (To
    × Message)) (old new : Running D) (result : Result ℕ NodeFault) : Type 0 where
  pub ok : IfOk result (λ malformed. LeadsSealed stands_for old new
      (TakesBatch last old.cluster old.me came malformed out new.releases))
  pub fault : IfErr result (λ why. LeadsSealed stands_for old new
      (GivesUpBatch last old.cluster old.me came why)
      ⊎ (IsStop why × LosesBatch stands_for last came old new))
  pub whose : StaysWhose old new
  pub counts : CountsDevice result (failures device old) (failures device new)
