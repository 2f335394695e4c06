-- Faults handed on.
use Rattle.std.proofs.Common.{◌≡◌, Result, Ok, Err}
use Rattle.std.specs.Result.{IsErrAnd, IfOk, IfErr}

pub err_gives : {T E : Type 0} {P Q : E → Type 0} (r : Result T E) → IsErrAnd r P → ((e : E) → P e → Q e) → IfErr r Q
err_gives (Ok x) h f = tt
err_gives (Err e) h f = f e h

pub same_err : {T E : Type 0} {e f : E} → ◌≡◌ {A = Result T E} (Err e) (Err f) → e ≡ f
same_err is = cc

pub ok_gives : {T E : Type 0} {P Q : T → Type 0} (r : Result T E) → IfOk r P → ((x : T) → P x → Q x) → IfOk r Q
ok_gives (Ok x) h f = f x h
ok_gives (Err e) h f = tt

pub errs_give : {T E : Type 0} {P Q : E → Type 0} (r : Result T E) → IfErr r P → ((e : E) → P e → Q e) → IfErr r Q
errs_give (Ok x) h f = tt
errs_give (Err e) h f = f e h
