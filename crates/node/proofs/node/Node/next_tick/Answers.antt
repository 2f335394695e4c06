use Rattle.std.proofs.Common.{◌≡◌, inl, inr, ℕ, ◌<◌, max, false, List, [], ◌∷◌, refl, sym, ap, subst, ◌∙◌, arith}
use Rattle.site_ids.specs.declared.TheConstants.{MAX_ROUND}
use Rattle.site_ids.specs.Ids.{BallotOf}
use Rattle.chosen_log.specs.Log.{IsGap}
use Rattle.node.specs.declared.fault.NodeFault.TheVariants.{OutOfMemory}
use Rattle.node.specs.declared.node.Node.{Node as Running}
use Rattle.node.specs.Nodes.{Value, Node, IsMute}
use Rattle.node.specs.Again.{IsSentAgain}
use Rattle.node.specs.Beginning.{begun, next_of, IsRefusedBy}
use Rattle.node.specs.Calls.{tick as ticking, oldest, Ticks}
use Rattle.node.specs.Endings.{Refuses}
use Rattle.node.specs.Standing.{IsNodeOf}
use Rattle.node.proofs.Beginnings.{so_of}
use Rattle.node.proofs.FreshAttempts.{ticks}
use Rattle.node.proofs.Gaps.{first_unknown, all_known, not_all_known}
use Rattle.node.proofs.Starting.{has_round, no_round, next_is_fresh}
use Rattle.node.proofs.Stepping.{Handed, is_up}
use Rattle.node.proofs.node.Node.next_tick.Goals as goal

-- a failed allocation is reported if an instance is unknown and a round is left
wants_it : {D : Type 0} (old : Running D) (s : Node) (i : ℕ) → IsNodeOf old s → old.store.stopped ≡ false → IsGap old.known.log i → max old.store.recorded.round old.proposer.heard < MAX_ROUND → Refuses s ticking OutOfMemory
wants_it old s i stands runs gap low = (is_up old s stands.parts runs, (not_all_known s i (first_unknown old.known.log s.known i stands.parts.known.values gap), inr (has_round old s stands.parts low)))

-- the tick that the code makes of what it found
ticks_so : {D : Type 0} (old : Running D) (s : Node) (i : ℕ) (b : BallotOf) (own : List Value) (again : Handed) → IsNodeOf old s → IsGap old.known.log i → ¬ IsMute s i → max old.store.recorded.round old.proposer.heard < MAX_ROUND → b ≡ next_of old → own ≡ oldest s.pending ∷ []
    → IsSentAgain old.me s i again → Ticks old.me s (begun old.me s i b own again)
ticks_so old s i b own again stands gap speaks low next oldest_is sent =
    subst (λ (vs : List Value). Ticks old.me s (begun old.me s i b vs again)) (sym oldest_is)
    (subst (λ (l : Handed). Ticks old.me s (begun old.me s i b (oldest s.pending ∷ []) l)) (sym sent.is)
    (ticks old.me s i b (oldest s.pending) sent.elsewhere sent.are (first_unknown old.known.log s.known i stands.parts.known.values gap) speaks (has_round old s stands.parts low) (next ∙ next_is_fresh old s stands.parts) refl))

pub returns-in_default-clause-refused : goal.returns-in_default-clause-refused
returns-in_default-clause-refused g c =
    let old = c.args.self.now in
    let runs = sym c.is_stopped.ensures ∙ c.if-is_stopped.false in
    record { in_range = tt; apart = λ e. cc; refuses = λ s stands. (is_up old s stands.parts runs, all_known old.known.log s stands.parts.known.values c.in_default.ensures) }

pub returns-in_default-own_ballot-clause-refused : goal.returns-in_default-own_ballot-clause-refused
returns-in_default-own_ballot-clause-refused g c =
    let old = c.args.self.now in
    let runs = sym c.is_stopped.ensures ∙ c.if-is_stopped.false in
    record {
      in_range = tt;
      apart = λ e. cc;
      refuses = λ s stands. (
        is_up old s stands.parts runs,
        (
          not_all_known s c.in-Some.first (first_unknown old.known.log s.known c.in-Some.first stands.parts.known.values c.in-Some.ensures),
          c.requires s stands,
          no_round old s stands.parts c.in_default-own_ballot.ensures,
        ),
      );
    }

pub returns-in_err-again-clause-refused : goal.returns-in_err-again-clause-refused
returns-in_err-again-clause-refused g c =
    let old = c.args.self.now in
    let runs = sym c.is_stopped.ensures ∙ c.if-is_stopped.false in
    let low : max old.store.recorded.round old.proposer.heard < MAX_ROUND = c.in-Some-own_ballot.ensures.1 in
    so_of (IsRefusedBy old ticking) c.from_residual.result OutOfMemory c.from_residual.ensures.1 (record { in_range = tt; apart = λ e. cc; refuses = λ s stands. wants_it old s c.in-Some.first stands runs c.in-Some.ensures low })

pub returns-in_err-values-clause-refused : goal.returns-in_err-values-clause-refused
returns-in_err-values-clause-refused g c =
    let old = c.args.self.now in
    let runs = sym c.is_stopped.ensures ∙ c.if-is_stopped.false in
    let low : max old.store.recorded.round old.proposer.heard < MAX_ROUND = c.in-Some-own_ballot.ensures.1 in
    so_of (IsRefusedBy old ticking) c.from_residual-in_err-values.result OutOfMemory c.from_residual-in_err-values.ensures.1 (record { in_range = tt; apart = λ e. cc; refuses = λ s stands. wants_it old s c.in-Some.first stands runs c.in-Some.ensures low })

pub returns-clause-due : goal.returns-clause-due
returns-clause-due g c =
    let old = c.args.self.now in
    let runs = sym c.is_stopped.ensures ∙ c.if-is_stopped.false in
    let low : max old.store.recorded.round old.proposer.heard < MAX_ROUND = c.in-Some-own_ballot.ensures.1 in
    let i = c.in-Some.first in
    let gap = c.in-Some.ensures.0 in
    let one = c.in_ok-values.ensures.alone in
    record {
      running = runs;
      above = omega (arith, ap (λ (b : BallotOf). b.round) c.in-Some-own_ballot.ensures.0);
      span = (omega (arith, one), omega (arith, one), gap.0, omega (arith, one, gap.1));
      in_range = tt;
      does = λ s stands. inl (ticks_so old s i c.in-Some-own_ballot.ballot c.in_ok-values.values.items c.in_ok-again.again.items stands c.in-Some.ensures (λ mute. c.requires s stands (i, first_unknown old.known.log s.known i stands.parts.known.values c.in-Some.ensures, mute)) low c.in-Some-own_ballot.ensures.0 (c.in_ok-values.ensures.oldest s.pending stands.parts.pending)
          (c.in_ok-again.ensures s stands (first_unknown old.known.log s.known i stands.parts.known.values c.in-Some.ensures)));
      wants = λ s stands. wants_it old s i stands runs c.in-Some.ensures low;
    }
