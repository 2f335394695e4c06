use Rattle.std.proofs.Common.{inl, inr, ℕ, suc, refl, subst}
use Rattle.site_disk.specs.Model.{DiskState}
use Rattle.durable.specs.Keeping.{Keeps}
use Rattle.durable.specs.declared.fault.RecordFault.TheVariants as fault
use Rattle.durable.proofs.Keeping.{never_refused}
use Rattle.node.specs.Nodes.{Node}
use Rattle.world.specs.declared.machine.Machine.{Machine}
use Rattle.world.specs.declared.machine.Machine.TheVariants.{Open, Bare}
use Rattle.world.specs.Opening.{HasDisk, OpensUnlessWanting}
use Rattle.world.specs.Standing.{IsMachineOf}
use Rattle.world.proofs.laws.records_of_worlds_open.Goals as goal

-- a file that keeps a record is one of this node, in form
opens : (n p : ℕ) (s : Node) (d : DiskState) → Keeps p n s.entries s.in_flight d → OpensUnlessWanting n p d
opens n p s d keeps fault.NotARecord is = absurd ((never_refused p n s.entries s.in_flight d keeps).0 is)
opens n p s d keeps fault.WrongNode is = absurd ((never_refused p n s.entries s.in_flight d keeps).1 is.1)
opens n p s d keeps fault.Damaged is = absurd ((never_refused p n s.entries s.in_flight d keeps).2 is.2)
opens n p s d keeps fault.Device is = inl refl
opens n p s d keeps fault.OutOfMemory is = inr refl
opens n p s d keeps fault.Full is = absurd is
opens n p s d keeps fault.Stopped is = absurd is

at_machine : (n p : ℕ) (machine : Machine) (s : Node) → IsMachineOf n p machine s → (d : DiskState) × HasDisk machine d × OpensUnlessWanting n p d
at_machine n p (Open code armed) s is =
    let keeps = subst (λ q. Keeps q n s.entries s.in_flight is.state) is.me (subst (λ m. Keeps code.me m s.entries s.in_flight is.state) is.cluster is.on_disk.keeps) in
    (is.state, is.on_disk.stands, opens n p s is.state keeps)
at_machine n p (Bare disk) s is = (is.state, is.stands, opens n p s is.state is.keeps)

pub returns : goal.returns
returns c = λ code w stands k machine at. at_machine code.cluster (suc k) machine (w.node (suc k)) (stands.machines k machine at)
