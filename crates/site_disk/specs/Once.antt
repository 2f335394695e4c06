-- What one call does to a disk of which one call fails.
use Rattle.std.specs.Prelude.{◌≡◌, ◌≢◌, ℕ, zero, suc, Option, Some, None, Result, IsErr}
use Rattle.site_disk.specs.Model.{CountsFailure}
use Rattle.site_disk.specs.declared.fail_once.FailOnce.{FailOnce}

-- how many calls it lets pass before the one that fails, after one more call. None: it is not armed
abbrev pub after_next : Option ℕ → Option ℕ
after_next None = None
after_next (Some zero) = None
after_next (Some (suc calls)) = Some calls

-- The armed call fails, and the disk under it is as before. Any other call is one of the disk under it, and
-- fails only if that disk counts a failure.
pub record IsOneCall {D T E : Type 0} (failed : D → ℕ) (old new : FailOnce D)
    (result : Result T E) : Type 0 where
  pub left : new.left ≡ after_next old.left
  pub due : old.left ≡ Some 0 → IsErr result × (new.disk ≡ old.disk)
  pub passed : old.left ≢ Some 0 → CountsFailure result (failed old.disk) (failed new.disk)
