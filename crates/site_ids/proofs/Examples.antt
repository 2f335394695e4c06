-- Examples of majorities and of ballots in their order.
use Rattle.std.proofs.Common.{◌≡◌, inl, inr, ℕ, [], ◌∷◌, refl, ⊎_elim, arith}
use Rattle.site_ids.specs.Ids.{IsNode, BallotOf, Below}
use Rattle.site_ids.specs.Lists.{In, Distinct}
use Rattle.site_ids.specs.Majorities.{Majority}

abbrev at : ℕ → ℕ → BallotOf
at round node = record { round = round; node = node }

two_of_three : Majority 3 (3 ∷ 1 ∷ [])
two_of_three = record { distinct = (λ h. ⊎_elim (λ (e : 1 ≡ 3). omega arith) (λ k. k) h, ((λ h. h), tt)); nodes = λ p h. are_nodes p h; enough = omega arith }
  where
    are_nodes : (p : ℕ) → In (3 ∷ 1 ∷ []) p → IsNode 3 p
    are_nodes p h = ⊎_elim (λ (e : 3 ≡ p). (omega arith, omega arith)) (λ (k : In (1 ∷ []) p). ⊎_elim (λ (e : 1 ≡ p). (omega arith, omega arith)) (λ n. absurd n) k) h

-- half of an even number of nodes is no majority
half_of_four : ¬ Majority 4 (1 ∷ 2 ∷ [])
half_of_four m = omega (arith, m.enough)

twice_told : ¬ Distinct {X = ℕ} (1 ∷ 2 ∷ 1 ∷ [])
twice_told d = d.0 (inr (inl refl))

round_before_node : Below (at 1 9) (at 2 1)
round_before_node = inl (omega arith)

node_in_a_round : Below (at 1 1) (at 1 2)
node_in_a_round = inr (refl, omega arith)
