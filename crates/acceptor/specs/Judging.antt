-- An acceptor's judgement of requests.
use Rattle.std.specs.Prelude.{◌≡◌, ℕ, List, Option, Some, None}
use Rattle.site_ids.specs.Ids.{BallotOf, Below, NotAbove}
use Rattle.site_ids.specs.declared.value.Vote.{Vote}
use Rattle.acceptor.specs.declared.slot.Slot.{Slot}
use Rattle.acceptor.specs.declared.judging.PrepareVerdict.{PrepareVerdict}
use Rattle.acceptor.specs.declared.judging.PrepareVerdict.TheVariants.{Promise, Again as PromiseAgain}
use Rattle.acceptor.specs.declared.judging.PrepareVerdict.TheVariants.{Nack as NackPrepare}
use Rattle.acceptor.specs.declared.judging.PrepareVerdict.TheVariants.{Silent as SilentPrepare}
use Rattle.acceptor.specs.declared.judging.ProposeVerdict.{ProposeVerdict}
use Rattle.acceptor.specs.declared.judging.ProposeVerdict.TheVariants.{Vote as VoteFor, Again as AcceptAgain}
use Rattle.acceptor.specs.declared.judging.ProposeVerdict.TheVariants.{Nack as NackProposal}
use Rattle.acceptor.specs.declared.judging.ProposeVerdict.TheVariants.{Silent as SilentProposal}

-- no promise, or one that is below the ballot
abbrev pub IsFreeBelow : Option BallotOf → BallotOf → Type 0
IsFreeBelow None b = Unit {0}
IsFreeBelow (Some c) b = Below c b

-- no promise above the ballot
abbrev pub IsFreeAt : Option BallotOf → BallotOf → Type 0
IsFreeAt None b = Unit {0}
IsFreeAt (Some c) b = NotAbove c b

-- the last vote is at this ballot
abbrev pub IsVotedAt : Option Vote → BallotOf → Type 0
IsVotedAt None b = ⊥
IsVotedAt (Some vote) b = vote.ballot ≡ b

-- the last vote is for this value at this ballot
abbrev pub IsVotedFor : Option Vote → BallotOf → List ℕ → Type 0
IsVotedFor None b v = ⊥
IsVotedFor (Some vote) b v = (vote.ballot ≡ b) × (vote.value ≡ v)

-- ---- for the code: agreement does not need it

-- a prepare is promised if there is no promise, or a lower one. A prepare at the promised ballot is promised
-- again, unless the last vote is at that ballot: then it is ignored. A prepare below the promise is refused
abbrev pub JudgesPrepare : Slot → BallotOf → PrepareVerdict → Type 0
JudgesPrepare s b Promise = IsFreeBelow s.promised b
JudgesPrepare s b PromiseAgain = (s.promised ≡ Some b) × ¬ (IsVotedAt s.vote b)
JudgesPrepare s b SilentPrepare = (s.promised ≡ Some b) × IsVotedAt s.vote b
JudgesPrepare s b (NackPrepare c) = (s.promised ≡ Some c) × Below b c

-- a proposal below the promise is refused. Any other is voted for, unless the last vote is at its ballot:
-- then it is accepted again if it is for the value of that vote, and ignored if it is not
abbrev pub JudgesProposal : Slot → BallotOf → List ℕ → ProposeVerdict → Type 0
JudgesProposal s b v VoteFor = IsFreeAt s.promised b × ¬ (IsVotedAt s.vote b)
JudgesProposal s b v AcceptAgain = IsFreeAt s.promised b × IsVotedFor s.vote b v
JudgesProposal s b v SilentProposal = IsFreeAt s.promised b × IsVotedAt s.vote b × ¬ (IsVotedFor s.vote b v)
JudgesProposal s b v (NackProposal c) = (s.promised ≡ Some c) × Below b c
