-- Examples of choices and of steps, in a cluster of five.
use Rattle.std.proofs.Common.{◌≡◌, inl, ℕ, List, [], ◌∷◌, ◌++◌, Option, Some, None, refl, subst, arith}
use Rattle.site_ids.specs.Ids.{BallotOf, IsNode}
use Rattle.site_ids.specs.Lists.{In, put_at}
use Rattle.site_ids.specs.declared.value.Vote.{Vote}
use Rattle.proposer.specs.Attempts.{Answer, Attempt, senders, TakesPromise, proposing}
use Rattle.proposer.specs.Best.{IsBest}
use Rattle.proposer.proofs.BestLemmas.{best_chooses, best_kept, best_taken}

abbrev at : ℕ → ℕ → BallotOf
at round node = record { round = round; node = node }

abbrev told : ℕ → ℕ → ℕ → Option Vote
told round node byte = Some (record { ballot = at round node; value = byte ∷ [] })

-- node 2 reported the vote P of (1, 2), and node 4 the vote Q of (2, 3)
abbrev answers : List Answer
answers = record { sender = 2; prior = told 1 2 80 } ∷ record { sender = 4; prior = told 2 3 81 } ∷ []

best : IsBest answers (told 2 3 81)
best = best_taken (record { sender = 2; prior = told 1 2 80 } ∷ []) 4 (told 2 3 81) (told 1 2 80) (inl (omega arith)) (best_taken [] 2 (told 1 2 80) None tt (λ x h. absurd h))

-- at ballot (3, 1) for the value X
abbrev two_answers : Attempt
two_answers = record { ballot = at 3 1; own = 88 ∷ []; answers = answers; proposal = None }

abbrev attempts : ℕ → Option Attempt
attempts i = Some two_answers

-- a second promise of node 2 changes nothing, whatever it reports
told_again : TakesPromise 5 attempts 2 7 (at 3 1) (told 2 5 82) attempts None
told_again = inl (λ a e c. c.2 (subst (λ (x : Attempt). In (senders x.answers) 2) (inside two_answers a e) (inl refl)), refl)
  where
    inside : (a b : Attempt) → Some a ≡ Some b → a ≡ b
    inside a b e = cc

-- a promise of node 1, which has no vote, makes three of five: the value is that of the highest vote reported
third_proposes : TakesPromise 5 attempts 1 7 (at 3 1) None (put_at attempts 7 (Some (proposing two_answers 1 None (81 ∷ [])))) (Some (81 ∷ []))
third_proposes = (
  two_answers,
  refl,
  (refl, refl, not_yet),
  record { distinct = (λ h. grind arith, (λ h. grind arith, (λ h. h, tt))); nodes = three_nodes; enough = omega arith },
  best_chooses (88 ∷ []) (answers ++ record { sender = 1; prior = None } ∷ []) (told 2 3 81) (best_kept answers 1 None (told 2 3 81) (λ h. h) best),
  refl,
)
  where
    not_yet : In {X = ℕ} (2 ∷ 4 ∷ []) 1 → ⊥
    not_yet h = grind arith

    three_nodes : (p : ℕ) → In {X = ℕ} (2 ∷ 4 ∷ 1 ∷ []) p → IsNode 5 p
    three_nodes p h = grind arith
