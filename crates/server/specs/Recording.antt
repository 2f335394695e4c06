-- What a node's record has at the first instances.
use Rattle.std.specs.Prelude.{ℕ, zero, suc, ◌+◌, ◌-◌, ◌^◌, min, Bool, ◌||◌, if◌then◌else◌, is_some}
use Rattle.durable.specs.Entries.{last_vote}
use Rattle.node.specs.Nodes.{Node}
use Rattle.node.specs.Tellings.{remembered}
use Rattle.server.specs.declared.recorded.Recorded.{Recorded}

-- how many of the instances 1 to k have the property
abbrev pub count_to : (ℕ → Bool) → ℕ → ℕ
count_to passes zero = 0
count_to passes (suc k) = if passes (suc k) then suc (count_to passes k) else count_to passes k

-- the furthest of them that has it; 0 if none has
abbrev pub furthest_to : (ℕ → Bool) → ℕ → ℕ
furthest_to passes zero = 0
furthest_to passes (suc k) = if passes (suc k) then suc k else furthest_to passes k

-- there is a vote on the record
abbrev pub has_vote : Node → ℕ → Bool
has_vote s i = is_some (last_vote i s.entries)

-- there is a vote, or a value that the node knows or has on record as learned
abbrev pub has_any : Node → ℕ → Bool
has_any s i = is_some (remembered s i) || has_vote s i

abbrev pub recorded_to : Node → ℕ → Recorded
recorded_to s k = record {
  votes = count_to (has_vote s) k;
  last = furthest_to (has_vote s) k;
  furthest = furthest_to (has_any s) k;
}

-- what was found up to an instance, with what that instance has
abbrev pub recorded_at : Node → ℕ → Recorded → Recorded
recorded_at s i r = record {
  votes = if has_vote s i then min (r.votes + 1) (2 ^ 32 - 1) else r.votes;
  last = if has_vote s i then i else r.last;
  furthest = if has_any s i then i else r.furthest;
}
