-- Bytes cut at the first of a kind.
use Rattle.std.specs.Prelude.{ℕ, ◌≡◌, ◌≢◌, List, ◌∷◌, ◌++◌, slice_index, EachIndex}

-- none of the bytes is b
abbrev pub Lacks : ℕ → List ℕ → Type 0
Lacks b bytes = EachIndex bytes (λ i. slice_index bytes i ≢ b)

-- the bytes are split at the first b
pub record IsCut (b : ℕ) (bytes front back : List ℕ) : Type 0 where
  pub whole : bytes ≡ front ++ b ∷ back
  pub first : Lacks b front
