-- How calls over a node and a link lead from scene to scene.
use Rattle.std.specs.Prelude.{◌≡◌, ℕ, Option, Some, None, List, ◌++◌, take, length, ⊤}
use Rattle.site_ids.specs.Lists.{In}
use Rattle.site_disk.specs.Model.{DiskState}
use Rattle.wire.specs.declared.message.Message.{Message}
use Rattle.wire.specs.Messages.{Fits}
use Rattle.node.specs.declared.node.Node.{Node as Running}
use Rattle.node.specs.declared.to.To.{To}
use Rattle.node.specs.Ahead.{StaysAhead}
use Rattle.node.specs.Endings.{Ending}
use Rattle.node.specs.Nodes.{Node}
use Rattle.node.specs.Standing.{IsNodeOf, IsOnDisk}
use Rattle.site_drive.specs.Drives.{Heard, Takes, Scene, EndsLast}
use Rattle.site_drive.specs.declared.last_call.LastCall.{LastCall}

-- what is handed out fits a datagram
abbrev pub AllFit : List (To × Message) → Type 0
AllFit out = (x : To × Message) → In out x → Fits x.1

-- if the disk keeps the one node, it keeps the next one
abbrev pub KeepsRecord : {D : Type 0} → (D → DiskState → Type 0) → Running D → Running D → Node → Node
    → Type 0
KeepsRecord stands_for old new s next = (d : DiskState) → IsOnDisk stands_for old s d → (e : DiskState)
    × IsOnDisk stands_for new next e

-- From each node that the old value stands for, this leads to one that the new value stands for, on the disk
-- as before or, while a batch is open, ahead of it
pub record NodeLeads {D : Type 0} (stands_for : D → DiskState → Type 0) (old new : Running D)
    (How : Node → Node → Type 0) : Type 0 where
  pub leads : (s : Node) → IsNodeOf old s → (next : Node) × How s next × IsNodeOf new next
      × KeepsRecord stands_for old new s next × StaysAhead stands_for old new s next

-- what was heard is handled. What that hands out comes after what was there, and fits
abbrev pub TakesIn : ℕ → ℕ → Heard → ℕ → List (To × Message) → List (To × Message) → Node → Node → Type 0
TakesIn n p h malformed before after s next = (out : List (To × Message)) × (after ≡ before ++ out)
    × Takes n p s h malformed out next × AllFit out

-- the calls after the last turn end in this way. What they hand out comes after what was there, and fits
abbrev pub Called : LastCall → ℕ → ℕ → Ending → List (To × Message) → List (To × Message) → Node → Node
    → Type 0
Called last n p ending before after s next = (out : List (To × Message)) × (after ≡ before ++ out)
    × EndsLast last n p s ending out next × AllFit out

-- node and link stand for the scene
pub record IsAt {D L : Type 0} (received : L → List (List ℕ) → Type 0)
    (given : L → List (ℕ × List ℕ) → Type 0) (code : Running D) (link : L) (x : Scene) : Type 0 where
  pub node : IsNodeOf code x.node
  pub heard : received link x.received
  pub told : given link x.given

-- the same of a node and its link
pub record LeadsTo {D L : Type 0} (stands_for : D → DiskState → Type 0)
    (received : L → List (List ℕ) → Type 0) (given : L → List (ℕ × List ℕ) → Type 0) (old new : Running D)
    (before after : L) (How : Scene → Scene → Type 0) : Type 0 where
  pub leads : (x : Scene) → IsAt received given old before x → (y : Scene) × How x y
      × IsAt received given new after y × KeepsRecord stands_for old new x.node y.node

-- the node stays the same, and what was published only grows, at its end
pub record StaysWhose {D : Type 0} (old new : Running D) : Type 0 where
  pub me : new.me ≡ old.me
  pub cluster : new.cluster ≡ old.cluster
  pub more : (vs : List (List ℕ)) × (new.releases ≡ old.releases ++ vs)

-- what a receive left in a buffer: nothing, or as much of a datagram as the buffer holds
abbrev pub IsHeldAs : Option ℕ → List ℕ → Heard → Type 0
IsHeldAs None buffer None = ⊤
IsHeldAs (Some n) buffer (Some d) = take n buffer ≡ take (length buffer) d
IsHeldAs _ buffer _ = ⊥
