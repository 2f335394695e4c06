-- How a call moves a disk's count of failures.
use Rattle.std.specs.Prelude.{◌≡◌, ◌⊎◌, ℕ, ◌-◌, ◌≤◌, ◌<◌, ◌^◌, Result, IsErrOf}

-- a failure is counted; the count may stay at the last value of its type
abbrev pub IsCounted : ℕ → ℕ → Type 0
IsCounted before now = (before ≤ now) × ((before < now) ⊎ (before ≡ 2 ^ 64 - 1))

-- a failure is counted if the call has this fault, and none otherwise
pub record CountsFault {T E : Type 0} (fault : E) (result : Result T E) (before now : ℕ) : Type 0 where
  pub counted : IsErrOf result fault → IsCounted before now
  pub none : ¬ IsErrOf result fault → now ≡ before
