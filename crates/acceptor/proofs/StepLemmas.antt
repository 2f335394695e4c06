-- Steps are what verdicts stand for.
use Rattle.std.proofs.Common.{◌≡◌, inl, inr, ℕ, List, Some, refl, sym, ap, subst, ⊎_elim}
use Rattle.site_ids.specs.Ids.{BallotOf}
use Rattle.acceptor.specs.declared.slot.Slot.{Slot}
use Rattle.acceptor.specs.declared.judging.PrepareVerdict.{PrepareVerdict}
use Rattle.acceptor.specs.declared.judging.PrepareVerdict.TheVariants as to_prepare
use Rattle.acceptor.specs.declared.judging.ProposeVerdict.{ProposeVerdict}
use Rattle.acceptor.specs.declared.judging.ProposeVerdict.TheVariants as to_proposal
use Rattle.acceptor.specs.Judging.{IsFreeBelow, IsVotedAt, IsVotedFor, JudgesPrepare, JudgesProposal}
use Rattle.acceptor.specs.Steps.{prepare, proposal, Answer, promise, accepted, nack, no_answer, with_promise, with_vote, Steps, after_prepare, answer_to_prepare, after_proposal, answer_to_proposal}
use Rattle.acceptor.specs.Laws.{PrepareSteps, ProposalSteps}

abbrev PrepareVerdictFor : Slot → Slot → BallotOf → Answer → Type 0
PrepareVerdictFor s t b answer = (verdict : PrepareVerdict) × JudgesPrepare s b verdict × (t ≡ after_prepare s b verdict) × (answer ≡ answer_to_prepare s verdict)

abbrev ProposalVerdictFor : Slot → Slot → BallotOf → List ℕ → Answer → Type 0
ProposalVerdictFor s t b v answer = (verdict : ProposeVerdict) × JudgesProposal s b v verdict × (t ≡ after_proposal s b v verdict) × (answer ≡ answer_to_proposal verdict)

prepare_verdict : (s t : Slot) (b : BallotOf) (answer : Answer) → Steps s (prepare b) t answer → PrepareVerdictFor s t b answer
prepare_verdict s t b (promise prior) h =
    ⊎_elim (λ (new : IsFreeBelow s.promised b × (t ≡ with_promise s b)). (to_prepare.Promise, new.0, new.1, ap promise h.0))
    (λ (again : (s.promised ≡ Some b) × (¬ IsVotedAt s.vote b) × (t ≡ s)). (to_prepare.Again, (again.0, again.1), again.2, ap promise h.0)) h.1
prepare_verdict s t b accepted h = absurd h
prepare_verdict s t b (nack c) h = (to_prepare.Nack c, h.0, h.1, refl)
prepare_verdict s t b no_answer h = (to_prepare.Silent, (h.0, h.1), h.2, refl)

prepare_step : (s : Slot) (b : BallotOf) (verdict : PrepareVerdict) → JudgesPrepare s b verdict → Steps s (prepare b) (after_prepare s b verdict) (answer_to_prepare s verdict)
prepare_step s b to_prepare.Promise h = (refl, inl (h, refl))
prepare_step s b to_prepare.Again h = (refl, inr (h.0, h.1, refl))
prepare_step s b (to_prepare.Nack c) h = (h, refl)
prepare_step s b to_prepare.Silent h = (h.0, h.1, refl)

pub prepare_steps : PrepareSteps
prepare_steps s t b answer = (
  prepare_verdict s t b answer,
  λ (found : PrepareVerdictFor s t b answer).
      subst (λ (x : Answer). Steps s (prepare b) t x) (sym found.3)
      (subst (λ (x : Slot). Steps s (prepare b) x (answer_to_prepare s found.0)) (sym found.2) (prepare_step s b found.0 found.1)),
)

proposal_verdict : (s t : Slot) (b : BallotOf) (v : List ℕ) (answer : Answer) → Steps s (proposal b v) t answer → ProposalVerdictFor s t b v answer
proposal_verdict s t b v (promise prior) h = absurd h
proposal_verdict s t b v accepted h =
    ⊎_elim (λ (new : (¬ IsVotedAt s.vote b) × (t ≡ with_vote b v)). (to_proposal.Vote, (h.0, new.0), new.1, refl))
    (λ (again : IsVotedFor s.vote b v × (t ≡ s)). (to_proposal.Again, (h.0, again.0), again.1, refl)) h.1
proposal_verdict s t b v (nack c) h = (to_proposal.Nack c, h.0, h.1, refl)
proposal_verdict s t b v no_answer h = (to_proposal.Silent, (h.0, h.1, h.2), h.3, refl)

proposal_step : (s : Slot) (b : BallotOf) (v : List ℕ) (verdict : ProposeVerdict) → JudgesProposal s b v verdict → Steps s (proposal b v) (after_proposal s b v verdict) (answer_to_proposal verdict)
proposal_step s b v to_proposal.Vote h = (h.0, inl (h.1, refl))
proposal_step s b v to_proposal.Again h = (h.0, inr (h.1, refl))
proposal_step s b v (to_proposal.Nack c) h = (h, refl)
proposal_step s b v to_proposal.Silent h = (h.0, h.1, h.2, refl)

pub proposal_steps : ProposalSteps
proposal_steps s t b v answer = (
  proposal_verdict s t b v answer,
  λ (found : ProposalVerdictFor s t b v answer).
      subst (λ (x : Answer). Steps s (proposal b v) t x) (sym found.3)
      (subst (λ (x : Slot). Steps s (proposal b v) x (answer_to_proposal found.0)) (sym found.2) (proposal_step s b v found.0 found.1)),
)
