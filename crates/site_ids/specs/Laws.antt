-- What holds of majorities and ballots.
use Rattle.std.specs.Prelude.{◌≡◌, ◌⊎◌, ℕ, ◌≤◌, List}
use Rattle.site_ids.specs.Ids.{BallotOf, Below}
use Rattle.site_ids.specs.Lists.{In}
use Rattle.site_ids.specs.Majorities.{Majority}

-- two majorities of the nodes 1 to n have a node in common
abbrev pub MajoritiesShare : Type 0
MajoritiesShare = (n : ℕ) (ps qs : List ℕ) → Majority n ps → Majority n qs → (p : ℕ) × In ps p × In qs p

-- one node or more have a majority
abbrev pub SomeMajority : Type 0
SomeMajority = (n : ℕ) → 1 ≤ n → (ps : List ℕ) × Majority n ps

-- a is below b, equal to it or above it, and only one of the three
abbrev pub OneOfThree : Type 0
OneOfThree = (a b : BallotOf)
    → (Below a b ⊎ ((a ≡ b) ⊎ Below b a)) × (¬ (Below a b × Below b a)) × (¬ Below a a)
