-- Fresh attempts: the ballot that they take, and the whole ending of a call that begins them.
use Rattle.std.proofs.Common.{◌≡◌, ℕ, suc, ◌+◌, ◌<◌, max, false, Option, Ok, List, [], ◌∷◌, ◌++◌, length, refl, sym, ap, subst, ◌∙◌, arith}
use Rattle.std.specs.Prelude.{◌↔◌}
use Rattle.site_ids.specs.declared.TheConstants.{MAX_ROUND}
use Rattle.site_disk.specs.Model.{DiskState}
use Rattle.site_ids.specs.Ids.{BallotOf}
use Rattle.site_ids.specs.Lists.{In}
use Rattle.wire.specs.declared.message.Message.{Message}
use Rattle.wire.specs.declared.message.Message.TheVariants.{Prepare}
use Rattle.durable.specs.Entries.{Round, last_round}
use Rattle.durable.specs.Puts.{Puts}
use Rattle.learner.specs.Votes.{IsTold}
use Rattle.learner.specs.declared.learner.Learner.{Learner}
use Rattle.proposer.specs.Attempts.{Attempt, opened_span}
use Rattle.proposer.specs.Standing.{Attempting}
use Rattle.node.specs.declared.queue.Queue.{Queue}
use Rattle.node.specs.declared.node.Node.{Node as Running}
use Rattle.node.specs.declared.to.To.{To}
use Rattle.node.specs.declared.to.To.TheVariants.{All}
use Rattle.node.specs.Nodes.{Value, Node}
use Rattle.node.specs.Calls.{Call, fresh_ballot, HasRound, Does}
use Rattle.node.specs.Standing.{HasParts, IsNodeOf, KeepsOthers}
use Rattle.node.specs.Waiting.{AreWaiting}
use Rattle.node.specs.Beginning.{begun, next_of}
use Rattle.node.proofs.Stepping.{Done, put_record, put_stays}

module _ {D : Type 0} where
  pub next_is_fresh : (code : Running D) (s : Node) → HasParts code s → next_of code ≡ fresh_ballot code.me s
  next_is_fresh code s parts =
      let round : max code.store.recorded.round code.proposer.heard + 1 ≡ suc (max (last_round s.entries) s.heard) =
      ap (λ r. max r code.proposer.heard + 1) parts.on_record.kept.round ∙ ap (λ h. max (last_round s.entries) h + 1) parts.heard ∙ omega arith in
      λ k. record { round = round k; node = code.proposer_node k }

  pub has_round : (code : Running D) (s : Node) → HasParts code s → max code.store.recorded.round code.proposer.heard < MAX_ROUND → HasRound s
  has_round code s parts low =
      let same = ap (λ (b : BallotOf). b.round) (next_is_fresh code s parts) in
      omega (arith, same, low)

  pub no_round : (code : Running D) (s : Node) → HasParts code s → max code.store.recorded.round code.proposer.heard ≡ MAX_ROUND → ¬ HasRound s
  no_round code s parts last has =
      let same = ap (λ (b : BallotOf). b.round) (next_is_fresh code s parts) in
      omega (arith, same, last, has)

  -- the round is on record, and an attempt for each of the values is open
  pub record Starts (stands_for : D → DiskState → Type 0) (failed : D → ℕ) (old new : Running D) (i : ℕ) (b : BallotOf) (values : List Value) : Type 0 where
    pub puts : Puts stands_for failed old.store new.store (Round b.round) (Ok tt)
    pub attempts : (attempts : ℕ → Option Attempt) → Attempting old.proposer attempts → Attempting new.proposer (opened_span attempts i b values)
    pub heard : new.proposer.heard ≡ old.proposer.heard
    pub learner : new.learner ≡ old.learner
    pub known : new.known ≡ old.known
    pub queue : new.queue ≡ old.queue
    pub reached : new.reached ≡ old.reached

  pub started : (stands_for : D → DiskState → Type 0) (failed : D → ℕ) (old new : Running D) (s : Node) (call : Call) (i : ℕ) (b : BallotOf) (values : List Value) (again : List (To × Message)) → IsNodeOf old s → old.store.stopped ≡ false → KeepsOthers old new
      → Does old.cluster old.me s call (begun old.me s i b values again) → Starts stands_for failed old new i b values → Done stands_for old new call ((All, Prepare old.me i b (length values)) ∷ again) s
  started stands_for failed old new s call i b values again stands runs others does starts =
      let parts = stands.parts in
      let t : Node = record s { entries = s.entries ++ Round b.round ∷ []; attempts = opened_span s.attempts i b values } in
      record {
        effect = begun old.me s i b values again;
        does = does;
        handed = refl;
        parts = record {
          on_record = put_record stands_for failed old new (Round b.round) others runs s parts starts.puts.put;
          votes = λ x. subst (λ (l : Learner). IsTold l x ↔ In s.votes x) (sym starts.learner) (parts.votes x);
          known = rw (starts.known, others.releases) parts.known;
          attempts = starts.attempts s.attempts parts.attempts;
          pending = subst (λ (q : Queue). AreWaiting q.items.items s.pending) (sym starts.queue) parts.pending;
          heard = starts.heard ∙ parts.heard;
          reached = starts.reached ∙ parts.reached;
        };
        stays = put_stays stands_for failed old new (Round b.round) others runs s t parts starts.puts.acknowledged (λ open_now. (starts.puts.batched open_now).ahead) refl refl;
      }
