-- Who is kept out, by the status of an answer.
use Rattle.std.specs.Prelude.{ℕ, ◌==◌, Bool, if◌then◌else◌, Option, Some, None}
use Rattle.editor_http.specs.declared.barred.Barred.{Barred}
use Rattle.editor_http.specs.declared.barred.Barred.TheVariants.{NoLogin, WrongLogin, Forbidden}

-- 401 says that a login is missing or wrong, 403 that none helps
abbrev pub barred_by : ℕ → Bool → Option Barred
barred_by status with_login =
    if status == 401 then Some (if with_login then WrongLogin else NoLogin)
    else (if status == 403 then Some Forbidden else None)
