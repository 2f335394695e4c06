-- Faults, and what stops at them.
use Rattle.std.proofs.Common.{◌≡◌, ◌≢◌, Bool, true, false, true≢false, List, ◌++◌, sym, ap, subst, refl, ◌∙◌, append-nil, ℕ, Option, Some, None, IfSome, Result, Ok, IfErr}
use Rattle.std.specs.Result.{is_ok, IsErrOf}
use Rattle.std.specs.Io.KnownBytes.{IsAtEnd}
use Rattle.http_read.specs.declared.fault.ReadFault.{ReadFault}
use Rattle.http_read.specs.declared.fault.ReadFault.TheVariants as fault
use Rattle.http_read.specs.Input.{StopsAt}

pub ok_is_no_err : {T E : Type 0} (x : T) (e : E) → ¬ (IsErrOf {T = T} {E = E} (Ok x) e)
ok_is_no_err x e is = true≢false (ap is_ok is)

-- at the end of the reader all was taken
pub all_taken : (first left : Option (List ℕ)) (P : List ℕ → Type 0) → IsAtEnd left → StopsAt first left P → IfSome first P
all_taken None left P end stops_there = tt
all_taken (Some input) None P end stops_there = absurd stops_there
all_taken (Some input) (Some rest) P end (taken, whole, holds) =
    subst P (sym (whole ∙ ap (λ t. taken ++ t) end ∙ append-nil taken)) holds

-- whether the fault is a failed allocation
abbrev pub is_memory : ReadFault → Bool
is_memory fault.Read = false
is_memory fault.OutOfMemory = true
is_memory fault.EndedEarly = false

pub no_memory : (f : ReadFault) → is_memory f ≡ false → f ≢ fault.OutOfMemory
no_memory f other same = true≢false (sym (ap is_memory same) ∙ other)

pub stopped_by : {T : Type 0} (r : Result T ReadFault) (f : ReadFault) (first left : Option (List ℕ)) (P : List ℕ → Type 0)
    → IfErr r (λ g. g ≢ fault.OutOfMemory → StopsAt first left P) → IsErrOf r f → is_memory f ≡ false → StopsAt first left P
stopped_by r f first left P stops_there is other =
    subst (λ x. IfErr x (λ g. g ≢ fault.OutOfMemory → StopsAt first left P)) is stops_there (no_memory f other)

pub stopped_read : {T : Type 0} (r : Result T ReadFault) (first left : Option (List ℕ)) (P : List ℕ → Type 0)
    → IfErr r (λ g. g ≢ fault.OutOfMemory → StopsAt first left P) → IsErrOf r fault.Read → StopsAt first left P
stopped_read r first left P stops_there is = stopped_by r fault.Read first left P stops_there is refl

pub stopped_end : {T : Type 0} (r : Result T ReadFault) (first left : Option (List ℕ)) (P : List ℕ → Type 0)
    → IfErr r (λ g. g ≢ fault.OutOfMemory → StopsAt first left P) → (IsErrOf r fault.EndedEarly → IsAtEnd left)
    → IsErrOf r fault.EndedEarly → IfSome first P
stopped_end r first left P stops_there end is =
    all_taken first left P (end is) (stopped_by r fault.EndedEarly first left P stops_there is refl)
