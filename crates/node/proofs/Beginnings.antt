-- Calls that begin attempts: how they are refused, from what is due.
use Rattle.std.proofs.Common.{◌≡◌, Result, Ok, Err, refl, sym, subst, ◌∙◌}
use Rattle.std.specs.Prelude.{◌≢◌, IfErr}
use Rattle.std.specs.Result.{IsErrAnd}
use Rattle.site_disk.specs.Model.{DiskState}
use Rattle.node.specs.Beginning.{IsRefusedBy}
use Rattle.node.specs.Calls.{Call}
use Rattle.node.specs.Endings.{Ending, Refused}
use Rattle.node.specs.Standing.{ending_by, ending_of, IsEvent}
use Rattle.node.specs.declared.fault.NodeFault.{NodeFault}
use Rattle.node.specs.declared.fault.NodeFault.TheVariants as fault
use Rattle.node.specs.declared.node.Node.{Node as Running}
use Rattle.node.proofs.Stepping.{Handed, ending_err, refused, same_store}

-- what holds of a fault holds of the error that was made of it
pub so_of : {T : Type 0} (P : NodeFault → Type 0) (r : Result T NodeFault) (f : NodeFault) → IsErrAnd r (λ y. y ≡ f) → P f → IfErr r P
so_of P (Ok x) f is p = absurd is
so_of P (Err y) f is p = subst P (sym is) p

refusal : (f : NodeFault) → f ≢ fault.Device → ending_by f ≡ Refused f
refusal fault.OutOfMemory apart = refl
refusal fault.Device apart = absurd (apart refl)
refusal fault.Stopped apart = refl
refusal fault.QueueFull apart = refl
refusal (fault.NotACommand why) apart = refl
refusal fault.InstancesUsedUp apart = refl
refusal fault.RoundsUsedUp apart = refl
refusal fault.Conflict apart = refl

pub refused_by : {D T : Type 0} (stands_for : D → DiskState → Type 0) (code : Running D) (call : Call) (f : NodeFault) (r : Result T NodeFault) (before : Handed) → IsErrAnd r (λ y. y ≡ f) → IsRefusedBy code call f
    → IsEvent stands_for code code call (ending_of r) before before
refused_by stands_for code call f r before is by =
    subst (λ (ending : Ending). IsEvent stands_for code code call ending before before) (sym (ending_err r f is ∙ refusal f by.apart))
    (refused stands_for code code call f before before (record { me = refl; cluster = refl; releases = refl }) by.in_range refl by.refuses (same_store code.store code.store refl) (λ s parts. parts))
