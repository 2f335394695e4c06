-- What holds of a proposer's steps.
use Rattle.std.specs.Prelude.{ℕ, List, Option, Some}
use Rattle.site_ids.specs.Ids.{BallotOf}
use Rattle.site_ids.specs.declared.value.Vote.{Vote}
use Rattle.proposer.specs.Attempts.{Attempt, TakesPromise}

-- after an attempt has proposed, no further promise makes it propose again, whatever its ballot
abbrev pub ProposesOnce : Type 0
ProposesOnce =
    (n q r i : ℕ) (b c : BallotOf) (prior other : Option Vote) (attempts after later : ℕ → Option Attempt)
    (v u : List ℕ)
    → TakesPromise n attempts q i b prior after (Some v) → ¬ TakesPromise n after r i c other later (Some u)
