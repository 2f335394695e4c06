use Rattle.std.proofs.Common.{ℕ, ◌<◌, max, List, sym, ap, subst, ◌∙◌, inl, arith}
use Rattle.site_ids.specs.declared.TheConstants.{MAX_ROUND}
use Rattle.site_ids.specs.Ids.{BallotOf}
use Rattle.chosen_log.specs.Log.{IsGap}
use Rattle.node.specs.declared.fault.NodeFault.TheVariants.{OutOfMemory}
use Rattle.node.specs.declared.node.Node.{Node as Running}
use Rattle.node.specs.Nodes.{Value, Node, IsFirstUnknown}
use Rattle.node.specs.Beginning.{begun, IsRefusedBy}
use Rattle.node.specs.Calls.{widen as widening, IsNextSpan, MayWiden, Does}
use Rattle.node.specs.Standing.{IsNodeOf}
use Rattle.node.proofs.Beginnings.{so_of}
use Rattle.node.proofs.FreshAttempts.{begins}
use Rattle.node.proofs.Gaps.{first_unknown, all_known}
use Rattle.node.proofs.Starting.{has_round, next_is_fresh}
use Rattle.node.proofs.Choosing.{oldest_is_untried, next_span}
use Rattle.node.proofs.Stepping.{Handed}
use Rattle.node.proofs.Widened.{none_free, wants_it, no_round_left}
use Rattle.node.proofs.node.Node.next_widening.Goals as goal

-- the first unknown instance, by the log's gap
first_of : {D : Type 0} (code : Running D) (s : Node) (gap : ℕ) → IsNodeOf code s → IsGap code.known.log gap → IsFirstUnknown s.known gap
first_of code s gap stands is = first_unknown code.known.log s.known gap stands.parts.known.values is

pub returns-in_default-clause-may : goal.returns-in_default-clause-may
returns-in_default-clause-may g c s stands = none_free s (all_known c.args.self.now.known.log s stands.parts.known.values c.in_default.ensures)

pub returns-in_default-next_free-clause-may : goal.returns-in_default-next_free-clause-may
returns-in_default-next_free-clause-may g c s stands may = c.in_default-next_free.ensures.least s stands (first_of c.args.self.now s c.in-Some.gap stands c.in-Some.ensures) may.0.0 may.0.1

pub returns-in_default-next_untried-clause-may : goal.returns-in_default-next_untried-clause-may
returns-in_default-next_untried-clause-may g c s stands may = c.in_default-next_untried.ensures.oldest s stands may.1.0 may.1.1

pub returns-in_default-own_ballot-clause-refused : goal.returns-in_default-own_ballot-clause-refused
returns-in_default-own_ballot-clause-refused g c =
    let code = c.args.self.now in
    let runs = sym c.is_stopped.ensures ∙ c.if-is_stopped.false in
    let may : (s : Node) → IsNodeOf code s → MayWiden s = λ s stands.
    ((c.in-Some-next_free.first, c.in-Some-next_free.ensures.least s stands (first_of code s c.in-Some.gap stands c.in-Some.ensures)), oldest_is_untried s c.in-Some-next_untried.oldest (c.in-Some-next_untried.ensures.oldest s stands)) in
    record { in_range = tt; apart = λ e. cc; refuses = λ s stands. no_round_left code s stands runs (may s stands) c.in_default-own_ballot.ensures }

pub returns-in_err-values-clause-refused : goal.returns-in_err-values-clause-refused
returns-in_err-values-clause-refused g c =
    let code = c.args.self.now in
    let runs = sym c.is_stopped.ensures ∙ c.if-is_stopped.false in
    let may : (s : Node) → IsNodeOf code s → MayWiden s = λ s stands.
    ((c.in-Some-next_free.first, c.in-Some-next_free.ensures.least s stands (first_of code s c.in-Some.gap stands c.in-Some.ensures)), oldest_is_untried s c.in-Some-next_untried.oldest (c.in-Some-next_untried.ensures.oldest s stands)) in
    so_of (IsRefusedBy code widening) c.from_residual.result OutOfMemory c.from_residual.ensures.1 (record { in_range = tt; apart = λ e. cc; refuses = λ s stands. wants_it code s stands runs (may s stands) c.in-Some-own_ballot.ensures.1 })

pub returns-clause-may : goal.returns-clause-may
returns-clause-may g c s stands =
    ((c.in-Some-next_free.first, c.in-Some-next_free.ensures.least s stands (first_of c.args.self.now s c.in-Some.gap stands c.in-Some.ensures)), oldest_is_untried s c.in-Some-next_untried.oldest (c.in-Some-next_untried.ensures.oldest s stands))

-- the span: as many instances as there are values, at most as many as are free
pub returns-clause-due : goal.returns-clause-due
returns-clause-due g c =
    let code = c.args.self.now in
    let runs = sym c.is_stopped.ensures ∙ c.if-is_stopped.false in
    let low : max code.store.recorded.round code.proposer.heard < MAX_ROUND = c.in-Some-own_ballot.ensures.1 in
    let i = c.in-Some-next_free.first in
    let b = c.in-Some-own_ballot.ballot in
    let values : List Value = c.in_ok-values.values.items in
    let run = c.free_run-most.ensures.span in
    let few = c.in_ok-values.ensures.few in
    let taken : (s : Node) → IsNodeOf code s → IsNextSpan s i values = λ s stands.
    let first = first_of code s c.in-Some.gap stands c.in-Some.ensures in
    let free = c.in-Some-next_free.ensures.least s stands first in
    next_span s c.in-Some.gap i c.free_run-most.result values first free (c.free_run-most.ensures.free s stands first free) (c.in_ok-values.ensures.oldest s c.in-Some.gap stands first (c.in-Some-next_untried.ensures.oldest s stands)) few.0 in
    record {
      running = runs;
      above = omega (arith, ap (λ (b : BallotOf). b.round) c.in-Some-own_ballot.ensures.0);
      span = (omega (arith, few.0), omega (arith, few.1, run.1), run.2, omega (arith, few.1, run.1, run.3));
      in_range = tt;
      does = λ s stands. subst (λ (again : Handed). Does code.cluster code.me s widening (begun code.me s i b values again)) (sym c.new.ensures.items) (inl (begins code.me s i b values (taken s stands) (has_round code s stands.parts low) (c.in-Some-own_ballot.ensures.0 ∙ next_is_fresh code s stands.parts)));
      wants = λ s stands. wants_it code s stands runs (returns-clause-may g c s stands) low;
    }
