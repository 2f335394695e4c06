-- A promise that is delivered, by the proposer's step.
use Rattle.std.proofs.Common.{◌≡◌, ℕ, false, Option, Some, None, Ok, Err, [], ◌∷◌, ◌++◌, refl, sym, ap, subst, ◌∙◌}
use Rattle.site_disk.specs.Model.{DiskState}
use Rattle.std.specs.Prelude.{◌↔◌}
use Rattle.site_ids.specs.Ids.{BallotOf}
use Rattle.site_ids.specs.Lists.{In}
use Rattle.site_ids.specs.declared.value.Vote.{Vote}
use Rattle.wire.specs.declared.message.Message.TheVariants.{Promise, Propose}
use Rattle.wire.specs.Messages.{IsMessage}
use Rattle.learner.specs.Votes.{IsTold}
use Rattle.learner.specs.declared.learner.Learner.{Learner}
use Rattle.proposer.specs.Attempts.{Attempt, TakesPromise}
use Rattle.proposer.specs.Standing.{Attempting, Promised}
use Rattle.proposer.specs.declared.fault.ProposerFault.{ProposerFault}
use Rattle.proposer.specs.declared.fault.ProposerFault.TheVariants.{OutOfMemory, RoundsUsedUp}
use Rattle.proposer.specs.declared.proposer.Proposal.{Proposal}
use Rattle.proposer.specs.declared.proposer.Proposer.{Proposer}
use Rattle.node.specs.declared.to.To.TheVariants.{All}
use Rattle.node.specs.declared.node.Node.{Node as Running}
use Rattle.node.specs.Nodes.{Value, Node}
use Rattle.node.specs.Waiting.{AreWaiting}
use Rattle.node.specs.declared.queue.Queue.{Queue}
use Rattle.node.specs.Calls.{deliver}
use Rattle.node.specs.Deliveries.{promise_out, reached_by}
use Rattle.node.specs.Standing.{KeepsOthers, TakesCall}
use Rattle.node.proofs.Handling.{handled, touched}
use Rattle.node.proofs.Stepping.{Handed, same_store, same_record, stays_there}

-- a step in which an allocation fails leaves the attempts as they are
pub attempts_stay : (n : ℕ) (attempts : ℕ → Option Attempt) (q i : ℕ) (b : BallotOf) (prior : Option Vote) (e : ProposerFault) (new : Proposer) → Promised n attempts q i b prior (Err e) new → Attempting new attempts
attempts_stay n attempts q i b prior OutOfMemory new h = h
attempts_stay n attempts q i b prior RoundsUsedUp new h = absurd h

-- the step was taken, for whichever attempts
pub record StepsTo (old new : Proposer) (n q i : ℕ) (b : BallotOf) (prior : Option Vote) (proposed : Option Value) : Type 0 where
  pub step : (attempts : ℕ → Option Attempt) → Attempting old attempts → (after : ℕ → Option Attempt) × TakesPromise n attempts q i b prior after proposed × Attempting new after

module _ (old new : Proposer) (n q i : ℕ) (b : BallotOf) (prior : Option Vote) (answer : Option Proposal) (taken : (attempts : ℕ → Option Attempt) → Attempting old attempts → Promised n attempts q i b prior (Ok answer) new) where
  pub proposes_none : answer ≡ None → StepsTo old new n q i b prior None
  proposes_none is = record { step = λ attempts are. subst (λ (x : Option Proposal). Promised n attempts q i b prior (Ok x) new) is (taken attempts are) }

  at_proposal : (proposal : Proposal) → answer ≡ Some proposal → (attempts : ℕ → Option Attempt) → Attempting old attempts → Promised n attempts q i b prior (Ok (Some proposal)) new
  at_proposal proposal is attempts are = subst (λ (x : Option Proposal). Promised n attempts q i b prior (Ok x) new) is (taken attempts are)

  pub proposes_some : (proposal : Proposal) → answer ≡ Some proposal → StepsTo old new n q i b prior (Some proposal.value)
  proposes_some proposal is = record { step = λ attempts are. (at_proposal proposal is attempts are).2 }

  -- it is handed out as the step has it
  pub proposal_out : (p : ℕ) (proposal : Proposal) → answer ≡ Some proposal → (attempts : ℕ → Option Attempt) → Attempting old attempts
      → promise_out p i b (Some proposal.value) ≡ (All, Propose p proposal.instance proposal.ballot proposal.value) ∷ []
  proposal_out p proposal is attempts are = let at = at_proposal proposal is attempts are in let instance = sym at.0 in let ballot = sym at.1 in λ k. (All, Propose p (instance k) (ballot k) proposal.value) ∷ []

module _ {D : Type 0} (stands_for : D → DiskState → Type 0) (failed : D → ℕ) where
  pub promise_whole : (old new : Running D) (q i : ℕ) (b : BallotOf) (prior : Option Vote) (proposed : Option Value) (before after out : Handed) → KeepsOthers old new → old.store.stopped ≡ false
      → IsMessage old.cluster (Promise q i b prior) → new.store ≡ old.store → new.learner ≡ old.learner → new.known ≡ old.known → new.queue ≡ old.queue → new.proposer.heard ≡ old.proposer.heard → new.reached ≡ reached_by old.reached (Promise q i b prior)
      → StepsTo old.proposer new.proposer old.cluster q i b prior proposed → after ≡ before ++ out → ((attempts : ℕ → Option Attempt) → Attempting old.proposer attempts → promise_out old.me i b proposed ≡ out)
      → TakesCall stands_for failed old new (deliver (Promise q i b prior)) (Ok (tt {0})) before after
  promise_whole old new q i b prior proposed before after out others runs in_range store learner known queue heard reached steps told same =
      let seems = same_store old.store new.store store in
      handled stands_for failed old new (Promise q i b prior) before after out others runs in_range store told (λ s stands.
      let parts = stands.parts in
      let how = steps.step s.attempts parts.attempts in
      let t : Node = record (touched (Promise q i b prior) s) { attempts = how.0 } in
      record {
        effect = record { entry = None; after = t; out = promise_out old.me i b proposed };
        does = record { attempts = how.0; proposed = proposed; step = how.1; is = refl };
        handed = same s.attempts parts.attempts;
        parts = record {
          on_record = same_record old new s t others seems refl refl refl parts.on_record;
          votes = λ x. subst (λ (l : Learner). IsTold l x ↔ In s.votes x) (sym learner) (parts.votes x);
          known = rw (known, others.releases) parts.known;
          attempts = how.2;
          pending = subst (λ (q : Queue). AreWaiting q.items.items s.pending) (sym queue) parts.pending;
          heard = heard ∙ parts.heard;
          reached = reached ∙ ap (λ r. reached_by r (Promise q i b prior)) parts.reached;
        };
        stays = stays_there stands_for old new s t others seems refl refl;
      })
