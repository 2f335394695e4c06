-- What holds of an acceptor's verdicts and steps.
use Rattle.std.specs.Prelude.{◌≡◌, ◌⊎◌, ◌↔◌, ℕ, List, Option, Some, None}
use Rattle.site_ids.specs.Ids.{BallotOf, NotAbove}
use Rattle.acceptor.specs.declared.slot.Slot.{Slot}
use Rattle.acceptor.specs.declared.judging.PrepareVerdict.{PrepareVerdict}
use Rattle.acceptor.specs.declared.judging.ProposeVerdict.{ProposeVerdict}
use Rattle.acceptor.specs.Judging.{IsFreeAt, JudgesPrepare, JudgesProposal}
use Rattle.acceptor.specs.Steps.{Request, prepare, proposal, Answer, with_vote, Steps, after_prepare}
use Rattle.acceptor.specs.Steps.{answer_to_prepare, after_proposal, answer_to_proposal}

-- a prepare's steps are those that its verdicts lead to
abbrev pub PrepareSteps : Type 0
PrepareSteps = (s t : Slot) (b : BallotOf) (answer : Answer)
    → Steps s (prepare b) t answer
    ↔ ((verdict : PrepareVerdict) × JudgesPrepare s b verdict × (t ≡ after_prepare s b verdict)
    × (answer ≡ answer_to_prepare s verdict))

-- a proposal's steps are those that its verdicts lead to
abbrev pub ProposalSteps : Type 0
ProposalSteps = (s t : Slot) (b : BallotOf) (v : List ℕ) (answer : Answer)
    → Steps s (proposal b v) t answer
    ↔ ((verdict : ProposeVerdict) × JudgesProposal s b v verdict × (t ≡ after_proposal s b v verdict)
    × (answer ≡ answer_to_proposal verdict))

-- a prepare has one verdict at most
abbrev pub OnePrepareVerdict : Type 0
OnePrepareVerdict =
    (s : Slot) (b : BallotOf) (x y : PrepareVerdict) → JudgesPrepare s b x → JudgesPrepare s b y → x ≡ y

-- a proposal has one verdict at most
abbrev pub OneProposalVerdict : Type 0
OneProposalVerdict =
    (s : Slot) (b : BallotOf) (v : List ℕ) (x y : ProposeVerdict) → JudgesProposal s b v x
    → JudgesProposal s b v y → x ≡ y

-- a request leads to one new slot and one answer
abbrev pub OneStep : Type 0
OneStep =
    (s t u : Slot) (request : Request) (x y : Answer) → Steps s request t x → Steps s request u y
    → (t ≡ u) × (x ≡ y)

-- after a step the promise is the old one, or a higher one
abbrev pub IsKept : Option BallotOf → Option BallotOf → Type 0
IsKept None now = Unit {0}
IsKept (Some b) None = ⊥
IsKept (Some b) (Some c) = NotAbove b c

abbrev pub PromiseRises : Type 0
PromiseRises =
    (s t : Slot) (request : Request) (answer : Answer) → Steps s request t answer
    → IsKept s.promised t.promised

-- a step keeps the vote, or it votes at a ballot that the old promise allows. Then the new promise is at that
-- ballot
abbrev pub VoteRises : Type 0
VoteRises = (s t : Slot) (request : Request) (answer : Answer) → Steps s request t answer
    → (t.vote ≡ s.vote) ⊎ ((b : BallotOf) × (v : List ℕ) × (t ≡ with_vote b v) × IsFreeAt s.promised b)
