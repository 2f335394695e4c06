use Rattle.node.specs.Calls.{tick as ticking}
use Rattle.node.specs.Nodes.{OnlyLearns}
use Rattle.node.proofs.Beginnings.{refused_by}
use Rattle.node.proofs.DeviceCounts.{counts_kept}
use Rattle.node.proofs.Muting.{so_it_is, so_it_is_not, asks_instead}
use Rattle.node.proofs.node.Node.tick.Goals as goal

pub returns-then-only_learns-clause-event : goal.returns-then-only_learns-clause-event
returns-then-only_learns-clause-event g c =
    let old = c.args.self.now in
    asks_instead g.D.Disk.stands_for old _ _ _ _ (so_it_is old c.only_learns.result OnlyLearns c.only_learns.ensures c.if-only_learns.true) c.ask.ensures.event

pub returns-then-only_learns-clause-counts : goal.returns-then-only_learns-clause-counts
returns-then-only_learns-clause-counts g c = counts_kept g.D.Disk.failed _ _ _ c.ask.ensures.no_put

pub next_tick-requires : goal.next_tick-requires
next_tick-requires g c = so_it_is_not c.args.self.now c.only_learns.result OnlyLearns c.only_learns.ensures c.if-only_learns.false

pub returns-in_err-due-clause-event : goal.returns-in_err-due-clause-event
returns-in_err-due-clause-event g c = refused_by g.D.Disk.stands_for c.args.self.now ticking c.in_err-due.field-0.0 c.from_residual.result _ c.from_residual.ensures.1 c.in_err-due.ensures.refused

pub returns-clause-event : goal.returns-clause-event
returns-clause-event g c = c.begin_attempts.ensures.event ticking c.in_ok-due.ensures.due

pub begin_attempts-requires-clause-running : goal.begin_attempts-requires-clause-running
begin_attempts-requires-clause-running g c = c.in_ok-due.ensures.due.running

pub begin_attempts-requires-clause-above : goal.begin_attempts-requires-clause-above
begin_attempts-requires-clause-above g c = c.in_ok-due.ensures.due.above

pub begin_attempts-requires-clause-span : goal.begin_attempts-requires-clause-span
begin_attempts-requires-clause-span g c = c.in_ok-due.ensures.due.span
