-- What a call says of the count of the device's failures, by what the record below it said.
use Rattle.std.proofs.Common.{◌≡◌, ℕ, Result, Ok, Err, refl, ap, ◌∙◌}
use Rattle.std.specs.Result.{IsErrAnd, IsErrOf}
use Rattle.site_disk.specs.Model.{DiskState}
use Rattle.durable.specs.Entries.{Entry}
use Rattle.durable.specs.Puts.{Puts}
use Rattle.durable.specs.declared.fault.RecordFault.{RecordFault}
use Rattle.durable.specs.declared.fault.RecordFault.TheVariants as stored
use Rattle.durable.specs.declared.record.Record.{Record}
use Rattle.node.specs.declared.fault.NodeFault.{NodeFault}
use Rattle.node.specs.declared.fault.NodeFault.TheVariants as fault
use Rattle.node.specs.Faults.{of_record}
use Rattle.node.specs.Standing.{CountsDevice}
use Rattle.node.proofs.Sealing.{device_below}

pub counts_none : {T : Type 0} (r : Result T NodeFault) (before now : ℕ) → ¬ IsErrOf r fault.Device → now ≡ before → CountsDevice r before now
counts_none r before now none same = record { counted = λ device. absurd (none device); none = λ other. same }

-- nothing is put
pub counts_kept : {D T : Type 0} (failed : D → ℕ) (r : Result T NodeFault) (old new : Record D) → (¬ IsErrOf r fault.Device) × (new ≡ old) → CountsDevice r (failed old.disk) (failed new.disk)
counts_kept {D} failed r old new kept = counts_none r (failed old.disk) (failed new.disk) kept.0 (ap (λ (store : Record D). failed store.disk) kept.1)

-- a failed allocation by itself is no failure of the device
pub no_device : {T : Type 0} (r : Result T NodeFault) → IsErrAnd r (λ y. y ≡ fault.OutOfMemory) → ¬ IsErrOf r fault.Device
no_device (Ok x) memory device = absurd memory
no_device (Err y) memory device = absurd (cc)

pub counts_memory : {T : Type 0} (r : Result T NodeFault) (before : ℕ) → IsErrAnd r (λ y. y ≡ fault.OutOfMemory) → CountsDevice r before before
counts_memory r before memory = counts_none r before before (no_device r memory) refl

pub no_fault : {T : Type 0} (x : T) → ¬ IsErrOf (Ok x) fault.Device
no_fault x device = absurd (cc)

pub counts_ok : {T : Type 0} (x : T) (before now : ℕ) → now ≡ before → CountsDevice (Ok x) before now
counts_ok x before now same = counts_none (Ok x) before now (no_fault x) same

-- a put that succeeded
pub counts_done : {D T : Type 0} (stands_for : D → DiskState → Type 0) (failed : D → ℕ) (old new : Record D) (entry : Entry) (x : T) → Puts stands_for failed old new entry (Ok tt) → CountsDevice (Ok x) (failed old.disk) (failed new.disk)
counts_done stands_for failed old new entry x puts = counts_ok x (failed old.disk) (failed new.disk) (puts.counts.none (λ device. absurd (cc)))

told_device : {T : Type 0} (r : Result T NodeFault) (e : RecordFault) → IsErrAnd r (λ y. y ≡ of_record e) → IsErrOf {T = Unit {0}} (Err e) stored.Device → IsErrOf r fault.Device
told_device (Ok x) e told below = absurd told
told_device (Err y) e told below = let device : e ≡ stored.Device = cc in ap Err (told ∙ ap of_record device)

-- a put that failed
pub counts_put : {D T : Type 0} (stands_for : D → DiskState → Type 0) (failed : D → ℕ) (old new : Record D) (entry : Entry) (e : RecordFault) (r : Result T NodeFault) → Puts stands_for failed old new entry (Err e) → IsErrAnd r (λ y. y ≡ of_record e)
    → CountsDevice r (failed old.disk) (failed new.disk)
counts_put stands_for failed old new entry e r puts told = record {
  counted = λ device. puts.counts.counted (ap Err (device_below r e told device));
  none = λ other. puts.counts.none (λ below. other (told_device r e told below));
}
