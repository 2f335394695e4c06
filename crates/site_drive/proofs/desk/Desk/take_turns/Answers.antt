use Rattle.std.proofs.Common.{◌+◌, ◌∙◌, arith}
use Rattle.durable.proofs.Results.{on_err}
use Rattle.site_drive.proofs.Counting.{counted_on, rose_on}
use Rattle.site_drive.proofs.Results.{err_gives}
use Rattle.site_drive.proofs.ManyTurns.{one_turn_more, one_turn_too_many, stays_on}
use Rattle.site_drive.proofs.Failing.{none_failed, all_fine, counts_on}
use Rattle.site_drive.proofs.desk.Desk.take_turns.Goals as goal

pub returns-in_err-malformed-clause-fault : goal.returns-in_err-malformed-clause-fault
returns-in_err-malformed-clause-fault g c = err_gives c.from_residual.result c.from_residual.ensures.1 λ e is.
    one_turn_too_many g.D.Disk.stands_for g.L.Link.received g.L.Link.given c.args.node.now c.loop-made.node c.turn.new.node c.args.link.now c.loop-made.link c.turn.new.link
    c.loop-made.invariant.whose c.loop-made.made c.loop-made.malformed c.loop-made.node.releases c.loop-made.invariant.leads c.args.turns _ e is c.loop-made-test.true c.in_err-malformed.ensures.fault

pub returns-in_err-malformed-clause-tried_fewer : goal.returns-in_err-malformed-clause-tried_fewer
returns-in_err-malformed-clause-tried_fewer g c = on_err c.from_residual.result
    (c.loop-made.made + 1, omega (arith, c.loop-made-test.true), rose_on _ _ _ _ _ c.loop-made.invariant.tried c.turn.ensures.tried)

pub returns-in_err-malformed-clause-counted : goal.returns-in_err-malformed-clause-counted
returns-in_err-malformed-clause-counted g c = counted_on _ _ _ _ _ _ c.loop-made.invariant.counted c.turn.ensures.counted

pub loop-made-preserved : goal.loop-made-preserved
loop-made-preserved g c = record {
  within = omega (arith, c.loop-made-test.true);
  few = omega (arith, c.loop-made.invariant.few, c.in_ok-malformed.ensures.one);
  empty = c.in_ok-malformed.ensures.empty;
  leads =
      one_turn_more g.D.Disk.stands_for g.L.Link.received g.L.Link.given c.args.node.now c.loop-made.node c.turn.new.node c.args.link.now c.loop-made.link c.turn.new.link
      c.loop-made.invariant.whose c.loop-made.made c.loop-made.malformed c.loop-made.node.releases c.loop-made.invariant.leads
      c.in_ok-malformed.field-0 c.turn.new.node.releases c.in_ok-malformed.ensures.ok;
  whose = stays_on c.args.node.now c.loop-made.node c.turn.new.node c.loop-made.invariant.whose c.turn.ensures.whose;
  tried = rose_on _ _ _ _ _ c.loop-made.invariant.tried c.turn.ensures.tried;
  counted = counted_on _ _ _ _ _ _ c.loop-made.invariant.counted c.turn.ensures.counted;
  counts = none_failed _ _ _ c.in_ok-malformed.ensures.counts ∙ c.loop-made.invariant.counts;
}

pub returns-in_err-malformed-clause-counts : goal.returns-in_err-malformed-clause-counts
returns-in_err-malformed-clause-counts g c = counts_on c.from_residual.result c.in_err-malformed.field-0.0 _ _ _ c.from_residual.ensures.1 c.loop-made.invariant.counts c.in_err-malformed.ensures.counts

pub returns-clause-counts : goal.returns-clause-counts
returns-clause-counts g c = all_fine _ _ _ c.loop-made.invariant.counts
