-- How a drive ends, over a node and its link.
use Rattle.std.specs.Prelude.{ℕ, ◌≤◌, List, Result, IfOk, IfErr, OnOk, OnErr}
use Rattle.site_disk.specs.Model.{DiskState}
use Rattle.node.specs.declared.fault.NodeFault.{NodeFault}
use Rattle.node.specs.declared.node.Node.{Node as Running}
use Rattle.node.specs.Standing.{CountsDevice, failures}
use Rattle.site_drive.specs.declared.driven.Driven.{Driven}
use Rattle.site_drive.specs.Drives.{Scene}
use Rattle.site_drive.specs.Leading.{LeadsTo, StaysWhose}
use Rattle.site_drive.specs.Links.{RoseBy}

-- the link's calls: there were as many receives as turns, or fewer if the drive is given up. The drive
-- reports as many failed calls as the link counts
pub record CallsLink {L : Type 0} (tried failed : L → ℕ) (turns : ℕ) (before after : L)
    (result : Result Driven NodeFault) : Type 0 where
  pub receives : OnOk result (RoseBy turns (tried before) (tried after))
  pub fewer : OnErr result ((made : ℕ) × (made ≤ turns) × RoseBy made (tried before) (tried after))
  pub told : IfOk result (λ driven. RoseBy driven.failed (failed before) (failed after))
  pub not_told : OnErr result ((calls : ℕ) × RoseBy calls (failed before) (failed after))

-- a whole drive leads on as IsWhole says, and one that is given up as GivesUp says. The node stays the same.
-- A failure of the device is reported, and no other failure was counted
pub record EndsDrive {D L : Type 0} (stands_for : D → DiskState → Type 0) (device : D → ℕ)
    (received : L → List (List ℕ) → Type 0) (given : L → List (ℕ × List ℕ) → Type 0) (tried failed : L → ℕ)
    (turns : ℕ) (old new : Running D) (before after : L) (result : Result Driven NodeFault) (IsWhole : Driven
    → Scene → Scene → Type 0) (GivesUp : NodeFault → Scene → Scene → Type 0) : Type 0 where
  pub ok : IfOk result (λ driven. LeadsTo stands_for received given old new before after (IsWhole driven))
  pub fault : IfErr result (λ why. LeadsTo stands_for received given old new before after (GivesUp why))
  pub whose : StaysWhose old new
  pub calls : CallsLink tried failed turns before after result
  pub counts : CountsDevice result (failures device old) (failures device new)
