-- Examples of verdicts and steps.
use Rattle.std.proofs.Common.{◌≡◌, inl, inr, ℕ, [], ◌∷◌, Some, None, refl, ap, arith}
use Rattle.site_ids.specs.Ids.{BallotOf}
use Rattle.site_ids.specs.declared.value.Vote.{Vote}
use Rattle.acceptor.specs.declared.slot.Slot.{Slot}
use Rattle.acceptor.specs.declared.judging.PrepareVerdict.TheVariants as to_prepare
use Rattle.acceptor.specs.declared.judging.ProposeVerdict.TheVariants as to_proposal
use Rattle.acceptor.specs.Judging.{JudgesPrepare, JudgesProposal}
use Rattle.acceptor.specs.Steps.{prepare, proposal, promise, accepted, nack, no_answer, Steps}

abbrev at : ℕ → ℕ → BallotOf
at round node = record { round = round; node = node }

abbrev vote_at : BallotOf → Vote
vote_at b = record { ballot = b; value = 5 ∷ [] }

-- promised (2, 1), and voted at (1, 3)
abbrev later_promise : Slot
later_promise = record { promised = Some (at 2 1); vote = Some (vote_at (at 1 3)) }

-- promised and voted at (2, 1)
abbrev voted : Slot
voted = record { promised = Some (at 2 1); vote = Some (vote_at (at 2 1)) }

abbrev empty : Slot
empty = record { promised = None; vote = None }

other_round : ◌≡◌ {A = ℕ} 1 2 → ⊥
other_round e = omega arith

other_node : ◌≡◌ {A = ℕ} 1 3 → ⊥
other_node e = omega arith

first_promise : Steps empty (prepare (at 1 2)) (record { promised = Some (at 1 2); vote = None }) (promise None)
first_promise = (refl, inl (tt, refl))

higher_prepare : JudgesPrepare later_promise (at 2 2) to_prepare.Promise
higher_prepare = inr (refl, omega arith)

equal_prepare : JudgesPrepare later_promise (at 2 1) to_prepare.Again
equal_prepare = (refl, λ e. other_round (ap (λ (b : BallotOf). b.round) e))

-- a higher node in a lower round is below
lower_prepare : JudgesPrepare later_promise (at 1 9) (to_prepare.Nack (at 2 1))
lower_prepare = (refl, inl (omega arith))

prior_is_told : Steps later_promise (prepare (at 2 2)) (record { promised = Some (at 2 2); vote = Some (vote_at (at 1 3)) }) (promise (Some (vote_at (at 1 3))))
prior_is_told = (refl, inl (higher_prepare, refl))

voted_prepare : Steps voted (prepare (at 2 1)) voted no_answer
voted_prepare = (refl, refl, refl)

same_vote : Steps voted (proposal (at 2 1) (5 ∷ [])) voted accepted
same_vote = (inr (refl, omega arith), inr ((refl, refl), refl))

other_value : JudgesProposal voted (at 2 1) (6 ∷ []) to_proposal.Silent
other_value = (inr (refl, omega arith), refl, λ e. cc)

higher_proposal : JudgesProposal voted (at 2 3) (6 ∷ []) to_proposal.Vote
higher_proposal = (inr (refl, omega arith), λ e. other_node (ap (λ (b : BallotOf). b.node) e))

lower_proposal : Steps voted (proposal (at 1 9) (5 ∷ [])) voted (nack (at 2 1))
lower_proposal = ((refl, inl (omega arith)), refl)
