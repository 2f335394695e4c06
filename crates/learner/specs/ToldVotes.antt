-- Votes that were reported, and what they decide.
use Rattle.std.specs.Prelude.{ℕ, List}
use Rattle.site_ids.specs.Ids.{BallotOf}
use Rattle.site_ids.specs.Lists.{In}
use Rattle.site_ids.specs.Majorities.{Majority}

-- a vote that was reported to a node
pub record ToldVote : Type 0 where
  pub voter : ℕ
  pub instance : ℕ
  pub ballot : BallotOf
  pub value : List ℕ

-- the vote of node p at instance i and ballot b for v
abbrev pub told_vote : ℕ → ℕ → BallotOf → List ℕ → ToldVote
told_vote p i b v = record { voter = p; instance = i; ballot = b; value = v }

-- a majority voted for v at instance i and ballot b. `IsVote` says which votes there are; of a list xs these
-- are `In xs`
abbrev pub HasMajority : ℕ → (ToldVote → Type 0) → ℕ → BallotOf → List ℕ → Type 0
HasMajority n IsVote i b v = (ps : List ℕ) × Majority n ps × ((p : ℕ) → In ps p → IsVote (told_vote p i b v))
