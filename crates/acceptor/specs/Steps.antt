-- An acceptor's step: a slot, a request, the new slot and the answer.
use Rattle.std.specs.Prelude.{◌≡◌, ◌⊎◌, ℕ, List, Option, Some}
use Rattle.site_ids.specs.Ids.{BallotOf, Below}
use Rattle.site_ids.specs.declared.value.Vote.{Vote}
use Rattle.acceptor.specs.declared.slot.Slot.{Slot}
use Rattle.acceptor.specs.declared.judging.PrepareVerdict.{PrepareVerdict}
use Rattle.acceptor.specs.declared.judging.PrepareVerdict.TheVariants as to_prepare
use Rattle.acceptor.specs.declared.judging.ProposeVerdict.{ProposeVerdict}
use Rattle.acceptor.specs.declared.judging.ProposeVerdict.TheVariants as to_proposal
use Rattle.acceptor.specs.Judging.{IsFreeBelow, IsFreeAt, IsVotedAt, IsVotedFor}

pub data Request : Type 0 where
  prepare : (ballot : BallotOf) → Request
  proposal : (ballot : BallotOf) (value : List ℕ) → Request

pub data Answer : Type 0 where
  promise : (prior : Option Vote) → Answer
  accepted : Answer
  nack : (promised : BallotOf) → Answer
  no_answer : Answer

-- the slot with a new promise: it keeps the vote
abbrev pub with_promise : Slot → BallotOf → Slot
with_promise s b = record { promised = Some b; vote = s.vote }

-- the slot with a new vote: its ballot is promised too
abbrev pub with_vote : BallotOf → List ℕ → Slot
with_vote b v = record { promised = Some b; vote = Some (record { ballot = b; value = v }) }

-- the ballot is below the promise, and the refusal reports the promise
abbrev pub IsRefused : Slot → BallotOf → BallotOf → Type 0
IsRefused s b c = (s.promised ≡ Some c) × Below b c

-- A prepare is promised if there is no promise, or a lower one, and the answer reports the vote. A prepare at
-- the promised ballot gets the same answer again, unless the last vote is at that ballot: then it gets none.
-- A proposal that is not below the promise is voted for, unless the last vote is at its ballot. Then the same
-- value is accepted again, and another value gets no answer. A prepare or a proposal below the promise is
-- refused.
abbrev pub Steps : Slot → Request → Slot → Answer → Type 0
Steps s (prepare b) after (promise prior) =
    (prior ≡ s.vote) × ((IsFreeBelow s.promised b × (after ≡ with_promise s b))
    ⊎ ((s.promised ≡ Some b) × ¬ IsVotedAt s.vote b × (after ≡ s)))
Steps s (prepare b) after no_answer = (s.promised ≡ Some b) × IsVotedAt s.vote b × (after ≡ s)
Steps s (prepare b) after (nack c) = IsRefused s b c × (after ≡ s)
Steps s (prepare b) after accepted = ⊥
Steps s (proposal b v) after accepted =
    IsFreeAt s.promised b
    × ((¬ IsVotedAt s.vote b × (after ≡ with_vote b v)) ⊎ (IsVotedFor s.vote b v × (after ≡ s)))
Steps s (proposal b v) after no_answer =
    IsFreeAt s.promised b × IsVotedAt s.vote b × ¬ IsVotedFor s.vote b v × (after ≡ s)
Steps s (proposal b v) after (nack c) = IsRefused s b c × (after ≡ s)
Steps s (proposal b v) after (promise prior) = ⊥

-- ---- for the code: agreement does not need it

-- the new slot and the answer that a verdict leads to
abbrev pub after_prepare : Slot → BallotOf → PrepareVerdict → Slot
after_prepare s b to_prepare.Promise = with_promise s b
after_prepare s b to_prepare.Again = s
after_prepare s b (to_prepare.Nack c) = s
after_prepare s b to_prepare.Silent = s

abbrev pub answer_to_prepare : Slot → PrepareVerdict → Answer
answer_to_prepare s to_prepare.Promise = promise s.vote
answer_to_prepare s to_prepare.Again = promise s.vote
answer_to_prepare s (to_prepare.Nack c) = nack c
answer_to_prepare s to_prepare.Silent = no_answer

abbrev pub after_proposal : Slot → BallotOf → List ℕ → ProposeVerdict → Slot
after_proposal s b v to_proposal.Vote = with_vote b v
after_proposal s b v to_proposal.Again = s
after_proposal s b v (to_proposal.Nack c) = s
after_proposal s b v to_proposal.Silent = s

abbrev pub answer_to_proposal : ProposeVerdict → Answer
answer_to_proposal to_proposal.Vote = accepted
answer_to_proposal to_proposal.Again = accepted
answer_to_proposal (to_proposal.Nack c) = nack c
answer_to_proposal to_proposal.Silent = no_answer
