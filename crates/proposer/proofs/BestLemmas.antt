-- The highest vote reported is kept along with the answers, and suffices for the choice.
use Rattle.std.proofs.Common.{◌≡◌, ◌⊎◌, inl, inr, ℕ, Option, Some, None, List, [], ◌∷◌, ◌++◌, sym, ap, subst, ◌∙◌, ⊎_elim, arith}
use Rattle.site_ids.specs.Ids.{BallotOf, Below, NotAbove}
use Rattle.site_ids.specs.Lists.{In}
use Rattle.site_ids.specs.declared.value.Vote.{Vote}
use Rattle.site_ids.proofs.MemberLemmas.{in_left, in_last, in_push}
use Rattle.proposer.specs.Attempts.{Answer, Chooses}
use Rattle.proposer.specs.Best.{IsBest, Exceeds, value_by}

not_above_itself : (a : BallotOf) → NotAbove a a
not_above_itself a = grind arith

not_above_below : (a b c : BallotOf) → NotAbove a b → Below b c → NotAbove a c
not_above_below a b c h k = grind arith

below_or_not : (a b : BallotOf) → Below a b ⊎ NotAbove b a
below_or_not a b = grind arith

abbrev answer : ℕ → Option Vote → Answer
answer q prior = record { sender = q; prior = prior }

no_vote : (w : Vote) → ◌≡◌ {A = Option Vote} None (Some w) → ⊥
no_vote w e = cc

same_vote : (v u : Vote) → Some v ≡ Some u → v ≡ u
same_vote v u e = cc

-- the choice needs only the best vote
pub best_chooses : (own : List ℕ) (answers : List Answer) (best : Option Vote) → IsBest answers best → Chooses own answers (value_by own best)
best_chooses own answers None h = inl (h, λ _. own)
best_chooses own answers (Some best) h = inr (h.0.0, best.ballot, h.0.1, h.0.2, h.1)

-- a vote is exceeded, or the other leaves it
pub exceeds_or_not : (prior best : Option Vote) → Exceeds prior best ⊎ ¬ Exceeds prior best
exceeds_or_not None best = inr (λ h. h)
exceeds_or_not (Some vote) None = inl tt
exceeds_or_not (Some vote) (Some best) = ⊎_elim (λ h. inl h) (λ low. inr (λ h. apart best.ballot vote.ballot h low)) (below_or_not best.ballot vote.ballot)
  where
    apart : (a b : BallotOf) → Below a b → NotAbove b a → ⊥
    apart a b h k = grind arith

-- an answer that reports no vote above the best one leaves it
pub best_kept : (answers : List Answer) (q : ℕ) (prior best : Option Vote) → ¬ Exceeds prior best → IsBest answers best → IsBest (answers ++ answer q prior ∷ []) best
best_kept answers q None None below h = λ x k. ⊎_elim (h x) (λ e. ap (λ (a : Answer). a.prior) (sym e)) (in_push answers (answer q None) x k)
best_kept answers q (Some vote) None below h = absurd (below tt)
best_kept answers q prior (Some best) below h = (
  (h.0.0, in_left answers (answer q prior ∷ []) h.0.0 h.0.1, h.0.2),
  λ y w k e. ⊎_elim (λ x. h.1 y w x e) (λ x. under prior w below (ap (λ (a : Answer). a.prior) x ∙ e)) (in_push answers (answer q prior) y k),
)
  where
    under : (prior : Option Vote) (w : Vote) → ¬ Exceeds prior (Some best) → prior ≡ Some w → NotAbove w.ballot best.ballot
    under None w below e = absurd (no_vote w e)
    under (Some vote) w below e =
        ⊎_elim (λ h. absurd (below h)) (λ low. subst (λ (z : Vote). NotAbove z.ballot best.ballot) (same_vote vote w e) low) (below_or_not best.ballot vote.ballot)

-- a reported vote that no other exceeds is the best
highest : (answers : List Answer) (q : ℕ) (vote : Vote) → ((y : Answer) (w : Vote) → In answers y → y.prior ≡ Some w → NotAbove w.ballot vote.ballot) → IsBest (answers ++ answer q (Some vote) ∷ []) (Some vote)
highest answers q vote under = (
  (answer q (Some vote), in_last answers (answer q (Some vote)), λ _. Some vote),
  λ y w k e. ⊎_elim (λ x. under y w x e)
      (λ x. subst (λ (z : Vote). NotAbove z.ballot vote.ballot) (same_vote vote w (ap (λ (a : Answer). a.prior) x ∙ e)) (not_above_itself vote.ballot))
      (in_push answers (answer q (Some vote)) y k),
)

-- one that reports a vote above the best one takes its place
pub best_taken : (answers : List Answer) (q : ℕ) (prior best : Option Vote) → Exceeds prior best → IsBest answers best → IsBest (answers ++ answer q prior ∷ []) prior
best_taken answers q None best above h = absurd above
best_taken answers q (Some vote) None above h = highest answers q vote (λ y w k e. absurd (no_vote w (sym (h y k) ∙ e)))
best_taken answers q (Some vote) (Some best) above h = highest answers q vote (λ y w k e. not_above_below w.ballot best.ballot vote.ballot (h.1 y w k e) above)
