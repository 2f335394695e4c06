-- The highest of a ballot and some promises.
use Rattle.std.specs.Prelude.{◌≡◌, ◌⊎◌, ℕ, Option, Some}
use Rattle.site_ids.specs.Ids.{BallotOf, Below}
use Rattle.acceptor.specs.Judging.{IsFreeAt}
use Rattle.world.specs.declared.bid.Bid.{Bid}

-- the promise if it is above the ballot, or else the bid as it was
abbrev pub IsHigher : Bid → ℕ → Option BallotOf → Bid → Type 0
IsHigher bid q promised after =
    (IsFreeAt promised bid.ballot × (after ≡ bid))
    ⊎ ((b : BallotOf) × (promised ≡ Some b) × Below bid.ballot b
    × (after ≡ record { ballot = b; node = Some q }))
