-- What each of the rounds leaves: where the attempt stands, and what waits.
use Rattle.std.proofs.Common.{◌≡◌, ◌≢◌, ◌⊎◌, ℕ, suc, ◌+◌, ◌<◌, ◌≤◌, true, Option, Some, None, List, length}
use Rattle.std.specs.Prelude.{◌-◌, ◌*◌, ◌^◌}
use Rattle.site_ids.specs.Ids.{BallotOf, IsNode}
use Rattle.site_ids.specs.Lists.{In}
use Rattle.wire.specs.declared.message.Message.{Message}
use Rattle.wire.specs.declared.message.Message.TheVariants.{Prepare, Promise, Propose, Accepted}
use Rattle.wire.specs.Spelling.{spelled}
use Rattle.proposer.specs.Attempts.{Attempt, opened}
use Rattle.node.specs.declared.to.To.{To}
use Rattle.node.specs.declared.to.To.TheVariants.{One, All}
use Rattle.node.specs.Nodes.{Value}
use Rattle.rounds.specs.Rounds.{Server, Group}
use Rattle.rounds.proofs.Elsewhere.{IsElsewhere}
use Rattle.rounds.proofs.Delivering.{AreAllowed}
use Rattle.rounds.proofs.Holding.{IsHeld, AreAll}
use Rattle.rounds.proofs.Answering.{IsAsideOrIt, IsAnswer}
use Rattle.rounds.proofs.Acting.{IsNoVote, IsVoteOf, IsNoBallot, IsThis}
use Rattle.rounds.proofs.Counting.{IsVoteOrBlank}
use Rattle.rounds.proofs.Loosening.{IsLoose}
use Rattle.rounds.proofs.Waiting.{IsWaiting}

-- node p of n tries v at the instance after these values; a clock moves d milliseconds at most in a round
module _ (n p d : ℕ) (values : List Value) (v : Value) where
  abbrev i : ℕ
  i = suc (length values)

  -- this node is p and has begun its attempt, or it is another one and wants no tick
  abbrev pub IsSide : BallotOf → ℕ → Server → Type 0
  IsSide b q x =
      ((q ≡ p) × IsHeld n q values IsNoBallot IsNoVote (Some (opened b v)) x.node
      × (x.pace.ticking.since ≢ None))
      ⊎ ((q ≢ p) × IsHeld n q values IsNoBallot IsNoVote None x.node × (x.node.reached ≤ length values))

  -- it is a ballot of node p, and its round is in range
  pub record IsOwn (b : BallotOf) : Type 0 where
    pub of : b.node ≡ p
    pub round : (1 ≤ b.round) × (b.round < 2 ^ 32)

  abbrev pub prepare : BallotOf → Message
  prepare b = Prepare p i b 1

  -- what a step of the first round leaves
  pub record StepsOne (b : BallotOf) (q : ℕ) (y : Server) (out : List (To × Message)) : Type 0 where
    pub side : IsSide b q y
    pub waiting : IsWaiting (length values) y.now y.pace.ticking
    pub says : AreAll (IsAnswer i (All, prepare b)) out

  -- after the first round node p's prepare waits for each node
  pub record IsOne (b : BallotOf) (g : Group) : Type 0 where
    pub own : IsOwn b
    pub side : (q : ℕ) → IsNode n q → IsSide b q (g q)
    pub waiting : (q : ℕ) → IsNode n q → IsWaiting (length values) (g q).now (g q).pace.ticking
    pub patience : (q : ℕ) → IsNode n q → 2 * d < (g q).pace.patience
    pub allowed : (q : ℕ) → IsNode n q → AreAllowed n q (IsAsideOrIt i (prepare b)) (g q).waits
    pub here : (q : ℕ) → IsNode n q → In (g q).waits (spelled (prepare b))

  abbrev pub promise : BallotOf → ℕ → Message
  promise b r = Promise r i b None

  -- which attempt stands at a node's instance, if one does
  abbrev pub IsAttemptOf : BallotOf → ℕ → Option Attempt → Type 0
  IsAttemptOf b q o = ((q ≡ p) × (o ≡ Some (opened b v))) ⊎ ((q ≢ p) × (o ≡ None))

  -- what a step of the second round leaves. Its server's clock showed this moment after the first round
  pub record StepsTwo (b : BallotOf) (q from : ℕ) (y : Server) (out : List (To × Message)) : Type 0 where
    pub attempt : Option Attempt
    pub attempt_of : IsAttemptOf b q attempt
    pub held : IsHeld n q values (IsThis b) IsNoVote attempt y.node
    pub waiting : IsWaiting (length values) from y.pace.ticking
    pub stirred : y.pace.stirred ≡ true
    pub says : AreAll (IsAnswer i (One p, promise b q)) out
    pub promises : In out (One p, promise b q)

  -- after the second round all promises wait for node p
  pub record IsTwo (b : BallotOf) (g : Group) : Type 0 where
    pub own : IsOwn b
    pub attempt : (q : ℕ) → IsNode n q → (o : Option Attempt) × IsAttemptOf b q o
        × IsHeld n q values (IsThis b) IsNoVote o (g q).node
    pub stirred : (q : ℕ) → IsNode n q → (g q).pace.stirred ≡ true
    pub waiting : (q : ℕ) → IsNode n q → (from : ℕ) × IsWaiting (length values) from (g q).pace.ticking
        × (from ≤ (g q).now) × ((g q).now + d - from < (g q).pace.patience)
    pub allowed : (q : ℕ) → IsNode n q → AreAllowed n q (λ m. IsElsewhere i m
        ⊎ ((q ≡ p) × ((r : ℕ) × IsNode n r × (m ≡ promise b r)))) (g q).waits
    pub here : (r : ℕ) → IsNode n r → In (g p).waits (spelled (promise b r))

  abbrev pub proposal : BallotOf → Message
  proposal b = Propose p i b v

  -- what a step of the third round leaves
  pub record StepsThree (b : BallotOf) (q : ℕ) (y : Server) (out : List (To × Message)) : Type 0 where
    pub attempt : Option Attempt
    pub held : IsHeld n q values (IsThis b) IsNoVote attempt y.node
    pub says : AreAll (IsAnswer i (All, proposal b)) out

  -- after the third round the proposal waits for each node
  pub record IsThree (b : BallotOf) (g : Group) : Type 0 where
    pub own : IsOwn b
    pub fits : length v ≤ 32768
    pub attempt : (q : ℕ) → IsNode n q → (o : Option Attempt)
        × IsHeld n q values (IsThis b) IsNoVote o (g q).node
    pub allowed : (q : ℕ) → IsNode n q → AreAllowed n q (IsAsideOrIt i (proposal b)) (g q).waits
    pub here : (q : ℕ) → IsNode n q → In (g q).waits (spelled (proposal b))

  abbrev pub accepted : BallotOf → ℕ → Message
  accepted b r = Accepted r i b v

  -- what a step of the fourth round leaves
  pub record StepsFour (b : BallotOf) (q : ℕ) (y : Server) (out : List (To × Message)) : Type 0 where
    pub unknown : y.node.known i ≡ None
    pub says : AreAll (λ x. IsAnswer i (All, accepted b q) x ⊎ IsLoose q i (IsVoteOf b v) x) out
    pub votes : In out (All, accepted b q)

  -- after the fourth round all votes wait for each node
  pub record IsFour (b : BallotOf) (g : Group) : Type 0 where
    pub own : IsOwn b
    pub fits : length v ≤ 32768
    pub unknown : (q : ℕ) → IsNode n q → (g q).node.known i ≡ None
    pub allowed : (q : ℕ) → IsNode n q → AreAllowed n q (IsVoteOrBlank n q values b v) (g q).waits
    pub here : (q r : ℕ) → IsNode n q → IsNode n r → In (g q).waits (spelled (accepted b r))
