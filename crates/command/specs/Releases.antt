-- The prefix of a list of commands that a release shows.
use Rattle.std.specs.Prelude.{ℕ, zero, suc, ◌≡◌, ◌≢◌, ◌<◌, List, [], ◌∷◌, ◌++◌, length, take, if◌then◌else◌}
use Rattle.std.specs.Prelude.{Bool, true, false}
use Rattle.command.specs.Action.{Action, release, Order}

abbrev pub is_release : Action → Bool
is_release release = true
is_release _ = false

-- how many releases the commands have
abbrev pub release_count : List Order → ℕ
release_count [] = 0
release_count (o ∷ later) = if is_release o.action then suc (release_count later) else release_count later

-- the commands up to the nth release
abbrev pub through : List Order → ℕ → List Order
through [] n = []
through (o ∷ later) zero = []
through (o ∷ later) (suc n) = o ∷ through later (if is_release o.action then n else suc n)

-- ---- for the code: agreement does not need it

-- the shortest prefix of the commands with n releases
pub record IsShortest (n : ℕ) (orders beginning : List Order) : Type 0 where
  pub begins : (rest : List Order) × (orders ≡ beginning ++ rest)
  pub counts : release_count beginning ≡ n
  pub shortest : (k : ℕ) → k < length beginning → release_count (take k beginning) ≢ n
