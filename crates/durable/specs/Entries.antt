-- Entries, and what a list of them records, the oldest first.
use Rattle.std.specs.Prelude.{◌≡◌, ℕ, List, [], ◌∷◌, ◌++◌, Option, Some, None, max, nat_eq, if◌then◌else◌}
use Rattle.site_ids.specs.Ids.{BallotOf, NotAbove}
use Rattle.site_ids.specs.Lists.{In}
use Rattle.site_ids.specs.Spans.{IsInSpan}
use Rattle.site_ids.specs.declared.value.Vote.{Vote}
use Rattle.acceptor.specs.declared.slot.Slot.{Slot}

pub data Entry : Type 0 where
  Round : (round : ℕ) → Entry
  Promised : (instance : ℕ) (ballot : BallotOf) → Entry
  PromisedSpan : (first : ℕ) (count : ℕ) (ballot : BallotOf) → Entry
  Voted : (instance : ℕ) (ballot : BallotOf) (value : List ℕ) → Entry
  Learned : (instance : ℕ) (value : List ℕ) → Entry
  Floor : (floor : ℕ) → Entry

-- the last round of the entries, or else r
abbrev pub round_after : ℕ → List Entry → ℕ
round_after r [] = r
round_after r (Round s ∷ es) = round_after s es
round_after r (Promised i b ∷ es) = round_after r es
round_after r (PromisedSpan i k b ∷ es) = round_after r es
round_after r (Voted i b v ∷ es) = round_after r es
round_after r (Learned i v ∷ es) = round_after r es
round_after r (Floor f ∷ es) = round_after r es

-- the last round, or 0 if there is none
abbrev pub last_round : List Entry → ℕ
last_round es = round_after 0 es

-- the last vote of the entries at instance i, or else the given one
abbrev pub vote_after : ℕ → Option Vote → List Entry → Option Vote
vote_after i last [] = last
vote_after i last (Round s ∷ es) = vote_after i last es
vote_after i last (Promised j b ∷ es) = vote_after i last es
vote_after i last (PromisedSpan j k b ∷ es) = vote_after i last es
vote_after i last (Voted j b v ∷ es) =
    vote_after i (if nat_eq j i then Some (record { ballot = b; value = v }) else last) es
vote_after i last (Learned j v ∷ es) = vote_after i last es
vote_after i last (Floor f ∷ es) = vote_after i last es

-- the last vote at the instance, or none
abbrev pub last_vote : ℕ → List Entry → Option Vote
last_vote i es = vote_after i None es

-- the value learned at the instance, if one is on record
abbrev pub learned_at : ℕ → List Entry → Option (List ℕ)
learned_at i [] = None
learned_at i (Round r ∷ es) = learned_at i es
learned_at i (Promised j b ∷ es) = learned_at i es
learned_at i (PromisedSpan j k b ∷ es) = learned_at i es
learned_at i (Voted j b v ∷ es) = learned_at i es
learned_at i (Learned j v ∷ es) = if nat_eq j i then Some v else learned_at i es
learned_at i (Floor f ∷ es) = learned_at i es

-- The floor of a record that took the place of a lost one: nobody knows what the lost record promised and
-- voted for at instances up to it. It is the first entry. It is 0 if the first entry is of another kind, or
-- if there is none
abbrev pub floor_of : List Entry → ℕ
floor_of (Floor f ∷ es) = f
floor_of es = 0

-- how far an entry reaches: a vote to its instance, a floor to itself, any other nowhere
abbrev pub reach_in : Entry → ℕ
reach_in (Round r) = 0
reach_in (Promised i b) = 0
reach_in (PromisedSpan i k b) = 0
reach_in (Voted i b v) = i
reach_in (Learned i v) = 0
reach_in (Floor f) = f

-- how far the entries reach: the greatest instance of a vote, or the floor if that is greater; 0 if there is
-- neither
abbrev pub reach_of : List Entry → ℕ
reach_of [] = 0
reach_of (e ∷ es) = max (reach_in e) (reach_of es)

-- The entry is a promise of this ballot at the instance, or a vote there at this ballot. The node's promise
-- there is the greatest such ballot of all entries
abbrev pub Raises : Entry → ℕ → BallotOf → Type 0
Raises (Round r) i b = ⊥
Raises (Promised j c) i b = (j ≡ i) × (c ≡ b)
Raises (PromisedSpan j k c) i b = IsInSpan j k i × (c ≡ b)
Raises (Voted j c v) i b = (j ≡ i) × (c ≡ b)
Raises (Learned j v) i b = ⊥
Raises (Floor f) i b = ⊥

-- the greatest ballot among the promises and votes at the instance
abbrev pub IsPromise : List Entry → ℕ → Option BallotOf → Type 0
IsPromise es i None = (e : Entry) (b : BallotOf) → In es e → Raises e i b → ⊥
IsPromise es i (Some b) = ((e : Entry) × In es e × Raises e i b)
    × ((e : Entry) (c : BallotOf) → In es e → Raises e i c → NotAbove c b)

-- the slot that the entries record for an instance
pub record IsSlot (es : List Entry) (i : ℕ) (s : Slot) : Type 0 where
  pub promise : IsPromise es i s.promised
  pub vote : s.vote ≡ last_vote i es

-- the entry that promises a ballot at the k instances from i on: a span of one is one instance's promise
abbrev pub promise_of : ℕ → ℕ → BallotOf → Entry
promise_of i k b = if nat_eq k 1 then Promised i b else PromisedSpan i k b

-- the entries with one more, if there is one
abbrev pub with_entry : List Entry → Option Entry → List Entry
with_entry es None = es
with_entry es (Some e) = es ++ e ∷ []

-- ---- for the code: agreement does not need it

-- the round that an entry records or promises, or 0 if it does neither
abbrev pub round_in : Entry → ℕ
round_in (Round r) = r
round_in (Promised i b) = b.round
round_in (PromisedSpan i k b) = b.round
round_in (Voted i b v) = b.round
round_in (Learned i v) = 0
round_in (Floor f) = 0

-- the greatest round that the entries record or promise, or 0 if there are none
abbrev pub greatest_round : List Entry → ℕ
greatest_round [] = 0
greatest_round (e ∷ es) = max (round_in e) (greatest_round es)
