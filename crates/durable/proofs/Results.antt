-- A fact that holds anyway.
use Rattle.std.proofs.Common.{◌≡◌, Result, Ok, Err, IfErr, OnErr, OnOk, refl, sym, subst, ◌∙◌, ap}
use Rattle.std.specs.Result.{IsErrAnd, IsErrOf}

pub on_err : {T E P : Type 0} (r : Result T E) → P → OnErr r P
on_err (Ok x) p = tt
on_err (Err e) p = p

pub on_ok : {T E P : Type 0} (r : Result T E) → P → OnOk r P
on_ok (Ok x) p = p
on_ok (Err e) p = tt

abbrev error_or : {T E : Type 0} → Result T E → E → E
error_or (Ok x) e = e
error_or (Err y) e = y

-- the error that it is
pub same_error : {T E : Type 0} (r : Result T E) (x y : E) → r ≡ Err x → r ≡ Err y → x ≡ y
same_error r x y is same = ap (λ q. error_or q y) (sym is ∙ same)

-- the fault that a `?` passes on
pub passed_on : {T E : Type 0} (r : Result T E) (fault wanted : E) → IsErrAnd r (λ y. y ≡ fault) → IsErrOf r wanted → fault ≡ wanted
passed_on (Ok x) fault wanted same is = absurd same
passed_on (Err y) fault wanted same is = sym same ∙ same_error (Err y) y wanted refl is

-- what holds of a fault holds of the one that a `?` passes on
pub passes_on : {T E : Type 0} (P : E → Type 0) (r : Result T E) (fault : E) → IsErrAnd r (λ y. y ≡ fault) → P fault → IfErr r P
passes_on P (Ok x) fault same holds = tt
passes_on P (Err y) fault same holds = subst P (sym same) holds
