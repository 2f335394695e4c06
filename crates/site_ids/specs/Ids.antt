-- Nodes, instances, and ballots in their order.
use Rattle.std.specs.Prelude.{◌≡◌, ◌⊎◌, ℕ, ◌<◌, ◌≤◌, ◌^◌}
use Rattle.std.specs.Coded.{Coded, coded_ℕ, coded×, code_by}
use Rattle.std.proofs.Common.{refl}
use Rattle.site_ids.specs.declared.TheConstants.{MAX_INSTANCE}

-- node p is one of the nodes 1 to n
abbrev pub IsNode : ℕ → ℕ → Type 0
IsNode n p = (1 ≤ p) × (p ≤ n)

-- instances are numbered from 1 to 1,000,000
abbrev pub IsInstance : ℕ → Type 0
IsInstance i = (1 ≤ i) × (i ≤ MAX_INSTANCE)

-- a round and the node that began it
pub record BallotOf : Type 0 where
  pub round : ℕ
  pub node : ℕ

abbrev pub coded_ballot : Coded BallotOf
coded_ballot =
    code_by (ℕ × ℕ) (coded× coded_ℕ coded_ℕ) (λ b. (b.round, b.node))
    (λ p. record { round = p.0; node = p.1 }) (λ _. refl)

-- a round from 1 on in four bytes, and one of the n nodes
abbrev pub IsBallot : ℕ → BallotOf → Type 0
IsBallot n b = (1 ≤ b.round) × (b.round < 2 ^ 32) × IsNode n b.node

-- by round, and then by node
abbrev pub Below : BallotOf → BallotOf → Type 0
Below a b = (a.round < b.round) ⊎ ((a.round ≡ b.round) × (a.node < b.node))

-- below or equal
abbrev pub NotAbove : BallotOf → BallotOf → Type 0
NotAbove a b = (a.round < b.round) ⊎ ((a.round ≡ b.round) × (a.node ≤ b.node))
