use Rattle.std.proofs.Common.{Some, refl, sym, subst, ◌∙◌, arith, rules}
use Rattle.site_drive.specs.Delivering.{IsNoted}
use Rattle.site_drive.specs.Drives.{BreaksOff}
use Rattle.site_drive.specs.Leading.{NodeLeads, TakesIn}
use Rattle.site_drive.proofs.Batching.{of_same_node, none_taken, one_more, breaks_off, all_taken}
use Rattle.site_drive.proofs.Failing.{none_failed, all_fine, counts_on}
use Rattle.site_drive.proofs.Noting.{noted_more, all_noted}
use Rattle.site_drive.proofs.Results.{err_gives}
use Rattle.site_drive.proofs.Sealing.{others_on}
use Rattle.site_drive.proofs.desk.Desk.take_each.Goals as goal

pub loop-datagram-init : goal.loop-datagram-init
loop-datagram-init g c = record {
  leads = none_taken g.D.Disk.stands_for c.args.node.now c.args.node.now.cluster c.args.node.now.me c.args.self.now.outbox.items c.requires;
  noted = refl;
  few = omega arith;
  others = record { me = refl; cluster = refl; releases = refl };
  counts = refl;
}

pub loop-datagram-preserved : goal.loop-datagram-preserved
loop-datagram-preserved g c =
    let old = c.args.node.now in
    let mid = c.loop-datagram.node in
    let new = c.deliver_datagram.new.node in
    let others = c.loop-datagram.invariant.others in
    let before = c.loop-datagram.self.outbox.items in
    let after = c.deliver_datagram.new.outbox.items in
    let one = c.in_ok-one.one in
    let x = c.datagram-item.result in
    record {
      leads =
          one_more g.D.Disk.stands_for (λ d. d.items) c.args.came.now c.loop-datagram.datagram-index x c.loop-datagram-test.true c.datagram-item.is
          old mid new old.cluster old.me c.loop-datagram.malformed before c.loop-datagram.invariant.leads one after
          (of_same_node g.D.Disk.stands_for old mid new others (λ n p. TakesIn n p (Some x.items) one before after)
          (subst (λ b. NodeLeads g.D.Disk.stands_for mid new (TakesIn mid.cluster mid.me (Some b) one before after)) c.as_slice.ensures.value c.in_ok-one.ensures.taken));
      noted =
          noted_more (λ d. d.items) c.args.came.now c.loop-datagram.datagram-index old.cluster c.args.self.now.delivered c.loop-datagram.self.delivered c.loop-datagram.invariant.noted
          x mid.cluster c.deliver_datagram.new.delivered c.loop-datagram-test.true c.datagram-item.is others.cluster
          (subst (λ b. IsNoted mid.cluster b c.loop-datagram.self.delivered c.deliver_datagram.new.delivered) c.as_slice.ensures.value c.in_ok-one.ensures.noted);
      few = omega (arith, c.loop-datagram.invariant.few, c.in_ok-one.ensures.one);
      others = others_on old mid new others c.deliver_datagram.ensures.others;
      counts = none_failed _ _ _ c.in_ok-one.ensures.counts ∙ c.loop-datagram.invariant.counts;
    }

pub returns-in_err-one-clause-fault : goal.returns-in_err-one-clause-fault
returns-in_err-one-clause-fault g c = err_gives c.from_residual.result c.from_residual.ensures.1 λ e is.
    let old = c.args.node.now in
    let mid = c.loop-datagram.node in
    let new = c.deliver_datagram.new.node in
    let x = c.datagram-item.result in
    breaks_off g.D.Disk.stands_for (λ d. d.items) c.args.came.now c.loop-datagram.datagram-index x c.loop-datagram-test.true c.datagram-item.is
    old mid new old.cluster old.me c.loop-datagram.malformed c.loop-datagram.self.outbox.items c.loop-datagram.invariant.leads e
    (of_same_node g.D.Disk.stands_for old mid new c.loop-datagram.invariant.others (λ n p s next. BreaksOff n p s x.items e next)
    (subst (λ b. NodeLeads g.D.Disk.stands_for mid new (λ s next. BreaksOff mid.cluster mid.me s b e next)) c.as_slice.ensures.value
    (subst (λ w. NodeLeads g.D.Disk.stands_for mid new (λ s next. BreaksOff mid.cluster mid.me s c.as_slice.result.now w next)) (sym is) c.in_err-one.ensures.broken)))

pub returns-in_err-one-clause-others : goal.returns-in_err-one-clause-others
returns-in_err-one-clause-others g c = others_on c.args.node.now c.loop-datagram.node c.deliver_datagram.new.node c.loop-datagram.invariant.others c.deliver_datagram.ensures.others

pub returns-in_err-one-clause-counts : goal.returns-in_err-one-clause-counts
returns-in_err-one-clause-counts g c = counts_on c.from_residual.result c.in_err-one.field-0.0 _ _ _ c.from_residual.ensures.1 c.loop-datagram.invariant.counts c.in_err-one.ensures.counts

pub returns-clause-ok : goal.returns-clause-ok
returns-clause-ok g c =
    all_taken g.D.Disk.stands_for (λ d. d.items) c.args.came.now c.loop-datagram.datagram-index c.args.node.now c.loop-datagram.node c.args.node.now.cluster c.args.node.now.me
    c.loop-datagram.malformed c.loop-datagram.self.outbox.items c.loop-datagram-test.false c.loop-datagram.invariant.leads

pub returns-clause-counts : goal.returns-clause-counts
returns-clause-counts g c = all_fine _ _ _ c.loop-datagram.invariant.counts

pub returns-clause-noted : goal.returns-clause-noted
returns-clause-noted g c =
    record { few = search rules; noted = all_noted (λ d. d.items) c.args.came.now c.loop-datagram.datagram-index c.args.node.now.cluster c.args.self.now.delivered c.loop-datagram.self.delivered c.loop-datagram.invariant.noted c.loop-datagram-test.false }
