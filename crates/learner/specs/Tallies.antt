-- Tallies: which votes they count, and what one more vote does to them.
use Rattle.std.specs.Prelude.{◌≡◌, ◌↔◌, ◌⊎◌, ℕ, Some, List, [], ◌∷◌, slice_get, take}
use Rattle.site_ids.specs.Ids.{BallotOf}
use Rattle.site_ids.specs.Lists.{In}
use Rattle.learner.specs.declared.tally.Tally.{Tally}
use Rattle.learner.specs.Masks.{HasNode}

-- the tally is of v at ballot b
abbrev pub IsOf : Tally → BallotOf → List ℕ → Type 0
IsOf tally b v = (tally.ballot ≡ b) × (tally.value ≡ v)

-- no tally is of v at b
abbrev pub HasNoneOf : List Tally → BallotOf → List ℕ → Type 0
HasNoneOf tallies b v = (x : Tally) → In tallies x → ¬ IsOf x b v

-- the first tally of v at b has place k
abbrev pub IsFirstOf : List Tally → ℕ → BallotOf → List ℕ → Type 0
IsFirstOf tallies k b v =
    (x : Tally) × (slice_get tallies k ≡ Some x) × IsOf x b v × HasNoneOf (take k tallies) b v

-- node p reported a vote for v at b: it is in the first tally of v at b
abbrev pub HasTold : List Tally → ℕ → BallotOf → List ℕ → Type 0
HasTold [] p b v = ⊥
HasTold (x ∷ xs) p b v = (IsOf x b v × HasNode x.nodes p) ⊎ ((¬ IsOf x b v) × HasTold xs p b v)

-- the new tallies count what the old ones do, and that p reported a vote for v at b
abbrev pub AddsTold : List Tally → List Tally → ℕ → BallotOf → List ℕ → Type 0
AddsTold old new p b v =
    (q : ℕ) (c : BallotOf) (w : List ℕ)
    → HasTold new q c w ↔ (HasTold old q c w ⊎ ((q ≡ p) × (c ≡ b) × (w ≡ v)))
