-- The highest vote reported.
use Rattle.std.specs.Prelude.{◌≡◌, ℕ, List, Option, Some, None, ⊤}
use Rattle.std.proofs.Common.{Bor}
use Rattle.std.specs.Option.{option_map}
use Rattle.site_ids.specs.Ids.{Below, NotAbove}
use Rattle.site_ids.specs.Lists.{In}
use Rattle.site_ids.specs.declared.value.Vote.{Vote}
use Rattle.proposer.specs.Attempts.{Answer, ToldNone}

-- the vote was reported, and no reported vote is higher; or no vote was reported
abbrev pub IsBest : List Answer → Option Vote → Type 0
IsBest answers None = ToldNone answers
IsBest answers (Some best) =
    ((x : Answer) × In answers x × (x.prior ≡ Some best))
    × ((y : Answer) (w : Vote) → In answers y → y.prior ≡ Some w → NotAbove w.ballot best.ballot)

-- a reported vote takes the place of the best one if it is higher, or if there is none yet
abbrev pub Exceeds : Option Vote → Option Vote → Type 0
Exceeds None best = ⊥
Exceeds (Some vote) None = ⊤
Exceeds (Some vote) (Some best) = Below best.ballot vote.ballot

-- the value of the best vote, or the attempt's own if there is none
abbrev pub value_by : List ℕ → Option Vote → List ℕ
value_by own None = own
value_by own (Some best) = best.value

-- the vote, if there is one, takes the place of the best one
abbrev pub replacing : Option Vote → Option Vote → Option Vote
replacing None best = best
replacing (Some vote) best = Some vote

-- the vote that a promise reported
abbrev pub vote_told : Option (Bor Vote) → Option Vote
vote_told prior = option_map (λ vote. vote.now) prior
