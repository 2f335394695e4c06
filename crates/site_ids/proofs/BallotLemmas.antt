-- The order of ballots.
use Rattle.std.proofs.Common.{◌≡◌, ◌⊎◌, inl, inr, ⊎_elim, arith}
use Rattle.site_ids.specs.Ids.{BallotOf, Below}
use Rattle.site_ids.specs.Laws.{OneOfThree}

same_ballot : (a b : BallotOf) → a.round ≡ b.round → a.node ≡ b.node → a ≡ b
same_ballot a b r s = λ i. record { round = r i; node = s i }

parts : (a b : BallotOf) → Below a b ⊎ (((a.round ≡ b.round) × (a.node ≡ b.node)) ⊎ Below b a)
parts a b = grind arith

-- equal, below or above
pub compare_ballots : (a b : BallotOf) → Below a b ⊎ ((a ≡ b) ⊎ Below b a)
compare_ballots a b = ⊎_elim (λ x. inl x) (λ x. inr (⊎_elim (λ (y : (a.round ≡ b.round) × (a.node ≡ b.node)). inl (same_ballot a b y.0 y.1)) (λ y. inr y) x)) (parts a b)

pub not_both : (a b : BallotOf) → ¬ (Below a b × Below b a)
not_both a b = grind arith

pub not_itself : (a : BallotOf) → ¬ Below a a
not_itself a = grind arith

pub one_of_three : OneOfThree
one_of_three a b = (compare_ballots a b, not_both a b, not_itself a)
