use Rattle.std.proofs.Common.{sym, subst, rules, Option}
use Rattle.std.specs.Prelude.{MatchOption}
use Rattle.node.specs.declared.beginning.Beginning.{Beginning}
use Rattle.node.specs.Calls.{widen as widening, MayWiden}
use Rattle.node.specs.Endings.{Ending}
use Rattle.node.specs.Nodes.{Node}
use Rattle.node.specs.Standing.{IsEvent}
use Rattle.node.proofs.Beginnings.{refused_by}
use Rattle.node.proofs.KnownValues.{is_none}
use Rattle.node.proofs.Stepping.{ending_err}
use Rattle.node.proofs.Widened.{nothing_begun}
use Rattle.node.proofs.node.Node.widen.Goals as goal

-- whether the node may widen, by what is due
abbrev AsMay : Node → Option Beginning → Type 0
AsMay s due = MatchOption due (¬ MayWiden s) (λ due. MayWiden s)

pub returns-in_err-due-clause-event : goal.returns-in_err-due-clause-event
returns-in_err-due-clause-event g c = refused_by g.D.Disk.stands_for c.args.self.now widening c.in_err-due.field-0.0 c.from_residual.result _ c.from_residual.ensures.1 c.in_err-due.ensures.refused

pub returns-in_default-clause-event : goal.returns-in_default-clause-event
returns-in_default-clause-event g c =
    nothing_begun g.D.Disk.stands_for c.args.self.now c.args.outbox.now.items c.in_ok-due.ensures.running
    (λ s stands. subst (AsMay s) (is_none c.in_ok-due.field-0 c.in_default.not-Some) (c.in_ok-due.ensures.may s stands))

pub returns-in_default-clause-widened : goal.returns-in_default-clause-widened
returns-in_default-clause-widened g c s stands =
    (λ e. absurd (cc), λ may. absurd (subst (AsMay s) (is_none c.in_ok-due.field-0 c.in_default.not-Some) (c.in_ok-due.ensures.may s stands) may))

pub begin_attempts-requires-clause-above : goal.begin_attempts-requires-clause-above
begin_attempts-requires-clause-above g c = (rw c.in-Some.is at c.in_ok-due.ensures.due).above

pub begin_attempts-requires-clause-span : goal.begin_attempts-requires-clause-span
begin_attempts-requires-clause-span g c = (rw c.in-Some.is at c.in_ok-due.ensures.due).span

pub returns-in_err-begin_attempts-clause-event : goal.returns-in_err-begin_attempts-clause-event
returns-in_err-begin_attempts-clause-event g c =
    let due = rw c.in-Some.is at c.in_ok-due.ensures.due in
    subst (λ (ending : Ending). IsEvent g.D.Disk.stands_for c.args.self.now c.begin_attempts.new.self widening ending c.args.outbox.now.items c.begin_attempts.new.outbox.items) (sym (ending_err c.from_residual-in_err-begin_attempts.result c.in_err-begin_attempts.field-0.0 c.from_residual-in_err-begin_attempts.ensures.1))
    (c.in_err-begin_attempts.ensures.event widening due)

pub returns-clause-event : goal.returns-clause-event
returns-clause-event g c =
    let due = rw c.in-Some.is at c.in_ok-due.ensures.due in
    c.in_ok-begin_attempts.ensures.event widening due

pub returns-clause-widened : goal.returns-clause-widened
returns-clause-widened g c s stands = (λ e. subst (AsMay s) c.in-Some.is (c.in_ok-due.ensures.may s stands), λ may. search rules)
