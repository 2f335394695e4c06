-- Where a file's entries end.
use Rattle.std.specs.Prelude.{◌≡◌, ◌≢◌, ℕ, List, ◌∷◌, ◌++◌}

-- after this front the file goes on with a gate that isn't open
pub record IsShutBehind (file front : List ℕ) : Type 0 where
  pub gate : ℕ
  pub rest : List ℕ
  pub closed : gate ≢ 1
  pub layout : file ≡ front ++ gate ∷ rest
