-- Failures of the device, over many laps.
use Rattle.std.proofs.Common.{◌≡◌, ⊎_elim, ℕ, zero, suc, Result, Ok, Err, ap, ◌∙◌}
use Rattle.std.specs.Result.{IsErrAnd}
use Rattle.http_serve.specs.Services.{MaySubmit, MaySubmitMany}
use Rattle.site_drive.proofs.Failing.{store_kept}
use Rattle.server_faults.specs.declared.server_fault.ServerFault.{ServerFault}
use Rattle.server_faults.specs.declared.server_fault.ServerFault.TheVariants.{Stopped}
use Rattle.server_clients.specs.declared.served.Served.{Served}
use Rattle.server_faults.specs.ServerFaults.{CountsNone}
use Rattle.server_clients.specs.Served.{offered}

one_halt : {T : Type 0} (x y : ServerFault) → ◌≡◌ {A = Result T ServerFault} (Err x) (Err y) → x ≡ y
one_halt x y e = cc

fine : {T : Type 0} (x : T) → ◌≡◌ {A = Result T ServerFault} (Ok x) (Err Stopped) → ⊥
fine x e = cc

-- the fault that is passed on, after laps that counted nothing
pub counts_on : {T U : Type 0} (r : Result T ServerFault) (why : ServerFault) (before mid now : ℕ) → IsErrAnd r (λ y. y ≡ why) → mid ≡ before → CountsNone {T = U} (Err why) mid now → CountsNone r before now
counts_on (Ok x) why before mid now is same c running = absurd is
counts_on (Err y) why before mid now is same c running = c (λ e. running (ap Err (is ∙ one_halt why Stopped e))) ∙ same

-- nothing was counted where no fault came
pub none_failed : {T : Type 0} (x : T) (before now : ℕ) → CountsNone {T = T} (Ok x) before now → now ≡ before
none_failed x before now c = c (fine x)

-- a request leaves the record alone
request_kept : {D : Type 0} (failed : D → ℕ) (old new : Served D) → MaySubmit offered old new → failed new.node.store.disk ≡ failed old.node.store.disk
request_kept failed old new may =
    ⊎_elim
    (λ (same : new ≡ old). ap (λ s. failed s.node.store.disk) same)
    (λ more. store_kept failed old.node.store new.node.store more.3.taken.record_is)
    may

pub requests_kept : {D : Type 0} (failed : D → ℕ) (n : ℕ) (old new : Served D) → MaySubmitMany offered n old new → failed new.node.store.disk ≡ failed old.node.store.disk
requests_kept failed zero old new same = ap (λ (s : Served _). failed s.node.store.disk) same
requests_kept failed (suc n) old new (mid, earlier, one) = request_kept failed mid new one ∙ requests_kept failed n old mid earlier
