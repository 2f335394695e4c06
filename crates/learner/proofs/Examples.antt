-- Examples of votes reported, in a cluster of five.
use Rattle.std.proofs.Common.{◌≡◌, inl, inr, ℕ, List, [], ◌∷◌, refl, subst, ⊎_elim, arith}
use Rattle.site_ids.specs.Ids.{BallotOf}
use Rattle.site_ids.specs.Lists.{In}
use Rattle.learner.specs.ToldVotes.{ToldVote, told_vote, HasMajority}

abbrev at : ℕ → ℕ → BallotOf
at round node = record { round = round; node = node }

-- nodes 2, 4 and 5 voted for one value at (1, 1), and node 3 for another at (2, 3)
abbrev votes : List ToldVote
votes = told_vote 2 1 (at 1 1) (7 ∷ []) ∷ told_vote 3 1 (at 2 3) (8 ∷ []) ∷ told_vote 4 1 (at 1 1) (7 ∷ []) ∷ told_vote 5 1 (at 1 1) (7 ∷ []) ∷ []

three_of_five : HasMajority 5 (In votes) 1 (at 1 1) (7 ∷ [])
three_of_five = (
  2 ∷ 4 ∷ 5 ∷ [],
  record { distinct = (λ h. grind arith, (λ h. grind arith, (λ h. h, tt))); nodes = λ p h. grind arith; enough = omega arith },
  λ p h.
      ⊎_elim (λ (e : 2 ≡ p). told p e (inl refl))
      (λ h. ⊎_elim (λ (e : 4 ≡ p). told p e (inr (inr (inl refl)))) (λ h. ⊎_elim (λ (e : 5 ≡ p). told p e (inr (inr (inr (inl refl))))) (λ k. absurd k) h) h) h,
)
  where
    told : {q : ℕ} (p : ℕ) → q ≡ p → In votes (told_vote q 1 (at 1 1) (7 ∷ [])) → In votes (told_vote p 1 (at 1 1) (7 ∷ []))
    told {q} p e h = subst (λ (r : ℕ). In votes (told_vote r 1 (at 1 1) (7 ∷ []))) e h
