-- What becomes of the held bytes when a number of them is taken.
use Rattle.std.specs.Prelude.{◌≡◌, ℕ, ◌+◌, List, ◌++◌, length}

-- a front of what is held is added to the body; with what is missing then it has n bytes
pub record TakesHeld (n : ℕ) (held now old new : List ℕ) (missing : ℕ) : Type 0 where
  pub front : List ℕ
  pub size : length front + missing ≡ n
  pub passed : held ≡ front ++ now
  pub added : new ≡ old ++ front
