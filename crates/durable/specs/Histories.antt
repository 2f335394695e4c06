-- Which entries may follow one another.
use Rattle.std.specs.Prelude.{◌≡◌, ◌≢◌, ℕ, ◌<◌, ◌≤◌, ◌^◌, List, [], ◌∷◌, ◌++◌, length, None, Some}
use Rattle.site_ids.specs.declared.TheConstants.{MAX_VALUE}
use Rattle.site_ids.specs.Ids.{BallotOf, IsInstance, IsBallot, Below, NotAbove}
use Rattle.site_ids.specs.Lists.{In}
use Rattle.site_ids.specs.Spans.{IsSpan, IsInSpan}
use Rattle.site_ids.specs.declared.value.Vote.{Vote}
use Rattle.durable.specs.Entries.{Entry, Round, Promised, PromisedSpan, Voted, Learned, Floor, Raises}
use Rattle.durable.specs.Entries.{last_round, last_vote, learned_at}

-- its numbers are in their ranges, in a cluster of n nodes
abbrev pub IsInRange : ℕ → Entry → Type 0
IsInRange n (Round r) = (0 < r) × (r < 2 ^ 32)
IsInRange n (Promised i b) = IsInstance i × IsBallot n b
IsInRange n (PromisedSpan i k b) = (2 ≤ k) × IsSpan i k × IsBallot n b
IsInRange n (Voted i b v) = IsInstance i × IsBallot n b × (length v ≤ MAX_VALUE)
IsInRange n (Learned i v) = IsInstance i × (length v ≤ MAX_VALUE)
IsInRange n (Floor f) = IsInstance f

-- each ballot raised at the instance is below this one
abbrev pub IsAbove : List Entry → ℕ → BallotOf → Type 0
IsAbove earlier i b = (e : Entry) (c : BallotOf) → In earlier e → Raises e i c → Below c b

-- A round is above the last one. A promise is above each ballot raised at its instance; that of a span at one
-- of its instances at least. A vote is below none of them, and not at the ballot of the last vote there. A
-- value is learned once at an instance, whatever is voted for there before or after: a later vote may be for
-- another value. A floor comes before all other entries.
abbrev pub Advances : List Entry → Entry → Type 0
Advances earlier (Round r) = last_round earlier < r
Advances earlier (Promised i b) = IsAbove earlier i b
Advances earlier (PromisedSpan i k b) = (j : ℕ) × IsInSpan i k j × IsAbove earlier j b
Advances earlier (Voted i b v) = ((e : Entry) (c : BallotOf) → In earlier e → Raises e i c → NotAbove c b)
    × ((vote : Vote) → last_vote i earlier ≡ Some vote → vote.ballot ≢ b)
Advances earlier (Learned i v) = learned_at i earlier ≡ None
Advances earlier (Floor f) = earlier ≡ []

-- an entry may follow these
pub record MayFollow (n : ℕ) (earlier : List Entry) (entry : Entry) : Type 0 where
  pub in_range : IsInRange n entry
  pub advances : Advances earlier entry

-- each entry may follow those before it
abbrev pub IsHistory : ℕ → List Entry → Type 0
IsHistory n entries = (earlier : List Entry) (entry : Entry) (later : List Entry)
    → entries ≡ earlier ++ entry ∷ later → MayFollow n earlier entry
