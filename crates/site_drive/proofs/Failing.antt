-- Failures of the device, over many calls.
use Rattle.std.proofs.Common.{◌≡◌, ◌⊎◌, ⊎_elim, ℕ, Result, Ok, Err, sym, ap, subst, ◌∙◌}
use Rattle.std.specs.Result.{IsErrAnd}
use Rattle.durable.specs.declared.record.Record.{Record}
use Rattle.node.specs.declared.fault.NodeFault.{NodeFault}
use Rattle.node.specs.declared.fault.NodeFault.TheVariants.{Device, OutOfMemory, Stopped}
use Rattle.node.specs.Standing.{CountsDevice}

one_fault : {T : Type 0} (x y : NodeFault) → ◌≡◌ {A = Result T NodeFault} (Err x) (Err y) → x ≡ y
one_fault x y e = cc

fine : {T : Type 0} (x : T) → ◌≡◌ {A = Result T NodeFault} (Ok x) (Err Device) → ⊥
fine x e = cc

other : OutOfMemory ≡ Device → ⊥
other e = cc

running : Stopped ≡ Device → ⊥
running e = cc

-- nothing was counted where no fault came
pub none_failed : {T : Type 0} (x : T) (before now : ℕ) → CountsDevice {T = T} (Ok x) before now → now ≡ before
none_failed x before now c = c.none (fine x)

pub all_fine : {T : Type 0} (x : T) (before now : ℕ) → now ≡ before → CountsDevice {T = T} (Ok x) before now
all_fine x before now same = record { counted = λ e. absurd (fine x e); none = λ _. same }

-- a fault that is passed on, after calls that counted nothing
pub counts_on : {T U : Type 0} (r : Result T NodeFault) (fault : NodeFault) (before mid now : ℕ) → IsErrAnd r (λ y. y ≡ fault) → mid ≡ before → CountsDevice {T = U} (Err fault) mid now → CountsDevice r before now
counts_on (Ok x) fault before mid now is same c = absurd is
counts_on {T} {U} (Err y) fault before mid now is same c =
    let there : CountsDevice {T = U} (Err fault) before now = subst (λ k. CountsDevice {T = U} (Err fault) k now) same c in
    record { counted = λ e. there.counted (ap Err (sym is ∙ one_fault y Device e)); none = λ no. there.none (λ e. no (ap Err (is ∙ one_fault fault Device e))) }

-- a call whose answer is handed on, after calls that counted nothing
pub counts_behind : {T : Type 0} (r : Result T NodeFault) (before mid now : ℕ) → mid ≡ before → CountsDevice r mid now → CountsDevice r before now
counts_behind r before mid now same c = subst (λ k. CountsDevice r k now) same c

-- a fault of another kind
pub none_of : {T : Type 0} (fault cause : NodeFault) (before now : ℕ) → fault ≡ cause → (cause ≡ Device → ⊥) → CountsDevice {T = T} (Err fault) before now → now ≡ before
none_of fault cause before now is apart c = c.none (λ e. apart (sym is ∙ one_fault fault Device e))

-- a failed allocation
pub memory_alone : {T : Type 0} (r : Result T NodeFault) (fault : NodeFault) (before now : ℕ) → IsErrAnd r (λ y. y ≡ fault) → fault ≡ OutOfMemory → now ≡ before → CountsDevice r before now
memory_alone (Ok x) fault before now is memory same = absurd is
memory_alone (Err y) fault before now is memory same = record { counted = λ e. absurd (other (sym memory ∙ (sym is ∙ one_fault y Device e))); none = λ _. same }

-- and after the fault as before it
pub counts_before : {T : Type 0} (r : Result T NodeFault) (before mid now : ℕ) → now ≡ mid → CountsDevice r before mid → CountsDevice r before now
counts_before r before mid now same c = subst (λ k. CountsDevice r before k) (sym same) c

-- a cause that no device has
pub no_device : {T : Type 0} (r : Result T NodeFault) (fault : NodeFault) (before now : ℕ) → IsErrAnd r (λ y. y ≡ fault) → ((fault ≡ Stopped) ⊎ (fault ≡ OutOfMemory)) → now ≡ before → CountsDevice r before now
no_device (Ok x) fault before now is causes same = absurd is
no_device (Err y) fault before now is causes same = record {
  counted = λ e. ⊎_elim (λ stopped. absurd (running (sym stopped ∙ (sym is ∙ one_fault y Device e)))) (λ memory. absurd (other (sym memory ∙ (sym is ∙ one_fault y Device e)))) causes;
  none = λ _. same;
}

-- a record that stays has counted nothing
pub store_kept : {D : Type 0} (failed : D → ℕ) (old new : Record D) → new ≡ old → failed new.disk ≡ failed old.disk
store_kept failed old new is = ap (λ r. failed r.disk) is
