use Rattle.std.proofs.Common.{◌≡◌, true, false, sym, subst, ◌∙◌}
use Rattle.node.specs.Calls.{widen}
use Rattle.node.specs.Endings.{Whole}
use Rattle.node.specs.Standing.{ending_by}
use Rattle.node.proofs.Stepping.{ending_err}
use Rattle.site_drive.specs.declared.last_call.LastCall.TheVariants.{Widen}
use Rattle.site_drive.proofs.Turning.{nothing_out}
use Rattle.site_drive.proofs.Calling.{begun_more, ended, quiet_out}
use Rattle.site_drive.proofs.Closing.{Ended}
use Rattle.site_drive.proofs.Failing.{none_failed, all_fine, counts_on}
use Rattle.site_drive.proofs.desk.Desk.widen_all.Goals as goal

pub returns-in_err-widen-clause-event : goal.returns-in_err-widen-clause-event
returns-in_err-widen-clause-event g c =
    let why = c.in_err-widen.field-0.0 in
    subst (Ended g.D.Disk.stands_for c.args.node.now c.widen.new.self Widen c.args.self.now.outbox.items c.widen.new.outbox.items) (sym (ending_err c.from_residual.result why c.from_residual.ensures.1))
    (ended g.D.Disk.stands_for c.args.node.now c.widening.node c.widen.new.self c.widening.invariant.others c.args.self.now.outbox.items c.widening.self.outbox.items c.widen.new.outbox.items c.widening.invariant.so_far
    (ending_by why) c.in_err-widen.ensures.event (λ n p s next out stands ends. nothing_out n p s next widen out why ends))

pub returns-clause-event : goal.returns-clause-event
returns-clause-event g c =
    ended g.D.Disk.stands_for c.args.node.now c.widening.node c.widen.new.self c.widening.invariant.others c.args.self.now.outbox.items c.widening.self.outbox.items c.widen.new.outbox.items c.widening.invariant.so_far
    Whole c.in_ok-widen.ensures.event
    (λ n p s next out stands ends.
    quiet_out n p s next out (λ may. let yet : true ≡ false = sym ((c.in_ok-widen.ensures.widened s stands).1 may) ∙ c.if-branch.false in absurd (cc)) ends)

pub widening-preserved : goal.widening-preserved
widening-preserved g c = record {
  so_far =
      begun_more g.D.Disk.stands_for c.args.node.now c.widening.node c.widen.new.self c.widening.invariant.others c.args.self.now.outbox.items c.widening.self.outbox.items c.widen.new.outbox.items c.widening.invariant.so_far
      c.in_ok-widen.ensures.event (λ s stands. (c.in_ok-widen.ensures.widened s stands).0 c.if-branch.true);
  others = record {
    me = c.widen.ensures.others.me ∙ c.widening.invariant.others.me;
    cluster = c.widen.ensures.others.cluster ∙ c.widening.invariant.others.cluster;
    releases = c.widen.ensures.others.releases ∙ c.widening.invariant.others.releases;
  };
  counted = c.widening.invariant.counted;
  delivered = c.widening.invariant.delivered;
  counts = none_failed _ _ _ c.in_ok-widen.ensures.counts ∙ c.widening.invariant.counts;
}

pub returns-in_err-widen-clause-counts : goal.returns-in_err-widen-clause-counts
returns-in_err-widen-clause-counts g c = counts_on c.from_residual.result c.in_err-widen.field-0.0 _ _ _ c.from_residual.ensures.1 c.widening.invariant.counts c.in_err-widen.ensures.counts

pub returns-clause-counts : goal.returns-clause-counts
returns-clause-counts g c = all_fine _ _ _ (none_failed _ _ _ c.in_ok-widen.ensures.counts ∙ c.widening.invariant.counts)
