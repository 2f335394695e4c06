-- Which attempts a proposer stands for. It keeps who sent answers, and the best vote that they reported.
use Rattle.std.specs.Prelude.{◌≡◌, ◌⊎◌, ℕ, List, Option, Some, None, Result, Ok, Err, ⊤, IsSome, unwrap_or}
use Rattle.std.specs.Prelude.{if◌then◌else◌}
use Rattle.std.specs.BTreeMap.{BTreeMap, get}
use Rattle.std.specs.Ordering.{nat_cmp}
use Rattle.std.specs.declared.alloc.AllocError.{AllocError}
use Rattle.site_ids.specs.Ids.{IsNode, BallotOf}
use Rattle.site_ids.specs.Lists.{In, Distinct}
use Rattle.site_ids.specs.Majorities.{Majority}
use Rattle.site_ids.specs.declared.value.Vote.{Vote}
use Rattle.proposer.specs.declared.open_attempt.OpenAttempt.{OpenAttempt}
use Rattle.proposer.specs.declared.fault.ProposerFault.{ProposerFault}
use Rattle.proposer.specs.declared.fault.ProposerFault.TheVariants.{OutOfMemory, RoundsUsedUp}
use Rattle.proposer.specs.declared.proposer.Proposal.{Proposal}
use Rattle.proposer.specs.declared.proposer.Proposer.{Proposer}
use Rattle.proposer.specs.Attempts.{Attempt, senders, Chooses, Counts, with_answer, waiting, proposing}
use Rattle.proposer.specs.Attempts.{TakesPromise}
use Rattle.proposer.specs.Best.{IsBest, value_by}

-- what is kept of an attempt, in a cluster of n nodes
pub record StandsFor (n : ℕ) (kept : OpenAttempt) (a : Attempt) : Type 0 where
  pub ballot : kept.ballot ≡ a.ballot
  pub own : kept.own ≡ a.own
  pub promised : kept.promised.items ≡ senders a.answers
  pub distinct : Distinct (senders a.answers)
  pub nodes : (p : ℕ) → In (senders a.answers) p → IsNode n p
  pub best : IsBest a.answers kept.best
  pub proposal : a.proposal ≡ (if kept.proposed then Some (value_by kept.own kept.best) else None)

-- both are there, and the one stands for the other; or neither is there
abbrev pub StandsForAny : ℕ → Option OpenAttempt → Option Attempt → Type 0
StandsForAny n None None = ⊤
StandsForAny n None (Some a) = ⊥
StandsForAny n (Some kept) None = ⊥
StandsForAny n (Some kept) (Some a) = StandsFor n kept a

-- what is kept of the attempt at an instance
abbrev pub attempt_at : BTreeMap ℕ (Option OpenAttempt) → ℕ → Option OpenAttempt
attempt_at attempts i = unwrap_or (get nat_cmp attempts i) None

-- there is room for an attempt at an instance
abbrev pub HasRoom : Proposer → ℕ → Type 0
HasRoom proposer i = IsSome (get nat_cmp proposer.attempts i)

-- the proposer's attempts, by instance
abbrev pub Attempting : Proposer → (ℕ → Option Attempt) → Type 0
Attempting proposer attempts =
    (i : ℕ) → StandsForAny proposer.cluster (attempt_at proposer.attempts i) (attempts i)

-- a call changes the proposer's attempts in this way, and nothing else of the proposer
pub record Changes (old new : Proposer) (change : (ℕ → Option Attempt) → ℕ → Option Attempt) : Type 0 where
  pub only : new ≡ record old { attempts = new.attempts }
  pub attempts : (attempts : ℕ → Option Attempt) → Attempting old attempts
      → Attempting new (change attempts)

-- what an attempt answers to a promise: nothing if the promise does not count or leaves it waiting; the value
-- that it proposes after the promise; or that an allocation failed, which changes nothing
abbrev pub Answered : ℕ → Attempt → ℕ → BallotOf → Option Vote → Result (Option (List ℕ)) AllocError
    → OpenAttempt → Type 0
Answered n a q b prior (Ok None) kept =
    (¬ Counts a q b × StandsFor n kept a)
    ⊎ (Counts a q b × ¬ Majority n (senders (with_answer a q prior)) × StandsFor n kept (waiting a q prior))
Answered n a q b prior (Ok (Some v)) kept =
    Counts a q b × Majority n (senders (with_answer a q prior)) × Chooses a.own (with_answer a q prior) v
    × StandsFor n kept (proposing a q prior v)
Answered n a q b prior (Err e) kept = StandsFor n kept a

-- the promise is handled as the step says, and what is proposed is handed out; or an allocation fails, and
-- the attempts stay as they are
abbrev pub Promised : ℕ → (ℕ → Option Attempt) → ℕ → ℕ → BallotOf → Option Vote
    → Result (Option Proposal) ProposerFault → Proposer → Type 0
Promised n attempts q i b prior (Ok None) new =
    (after : ℕ → Option Attempt) × TakesPromise n attempts q i b prior after None × Attempting new after
Promised n attempts q i b prior (Ok (Some proposal)) new =
    (proposal.instance ≡ i) × (proposal.ballot ≡ b)
    × ((after : ℕ → Option Attempt) × TakesPromise n attempts q i b prior after (Some proposal.value)
    × Attempting new after)
Promised n attempts q i b prior (Err OutOfMemory) new = Attempting new attempts
Promised n attempts q i b prior (Err RoundsUsedUp) new = ⊥
