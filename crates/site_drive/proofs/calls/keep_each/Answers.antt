use Rattle.std.proofs.Common.{◌≡◌, ◌+◌, suc, [], inl, inr, refl, sym, subst, ◌∙◌, arith}
use Rattle.node.specs.Calls.{keep}
use Rattle.node.specs.Endings.{Whole}
use Rattle.node.specs.Standing.{IsEvent, ending_by}
use Rattle.node.proofs.Stepping.{ending_err}
use Rattle.site_drive.specs.Drives.{KeepAll, KeepsEach}
use Rattle.site_drive.specs.Leading.{NodeLeads}
use Rattle.site_drive.proofs.Calling.{none_kept, kept_more, kept_short, all_kept, not_whole}
use Rattle.site_drive.proofs.Failing.{none_failed, all_fine, counts_on}
use Rattle.site_drive.proofs.Sealing.{others_on}
use Rattle.site_drive.proofs.calls.keep_each.Goals as goal

pub loop-past-init : goal.loop-past-init
loop-past-init g c = record {
  so_far = none_kept g.D.Disk.stands_for c.args.node.now c.args.node.now.cluster c.args.node.now.me c.args.first;
  others = record { me = refl; cluster = refl; releases = refl };
  counts = refl;
}

-- after the last instance
pub returns-in_default-clause-event : goal.returns-in_default-clause-event
returns-in_default-clause-event g c =
    let old = c.args.node.now in
    let l = c.loop-past in
    all_kept g.D.Disk.stands_for old l.node old.cluster old.me c.args.first c.args.count l.past (omega arith) (inr c.in_default.ensures) l.invariant.so_far

pub returns-in_err-keep-clause-event : goal.returns-in_err-keep-clause-event
returns-in_err-keep-clause-event g c =
    let old = c.args.node.now in
    let l = c.loop-past in
    let new = c.keep.new.self in
    let why = c.in_err-keep.field-0.0 in
    subst (λ e. NodeLeads g.D.Disk.stands_for old new (λ s next. KeepsEach old.cluster old.me c.args.first c.args.count s e next)) (sym (ending_err c.from_residual.result why c.from_residual.ensures.1))
    (kept_short g.D.Disk.stands_for old l.node new l.invariant.others c.args.first l.past l.invariant.so_far c.args.count (ending_by why) (omega arith) (not_whole why)
    (subst (λ i. IsEvent g.D.Disk.stands_for l.node new (keep i) (ending_by why) [] []) c.in-Some.ensures.0 c.in_err-keep.ensures.event))

pub loop-past-preserved : goal.loop-past-preserved
loop-past-preserved g c =
    let old = c.args.node.now in
    let l = c.loop-past in
    let new = c.keep.new.self in
    let next : suc l.past ≡ l.past + 1 = omega arith in
    record {
      so_far =
          subst (λ k. NodeLeads g.D.Disk.stands_for old new (KeepAll old.cluster old.me c.args.first k)) next
          (kept_more g.D.Disk.stands_for old l.node new l.invariant.others c.args.first l.past l.invariant.so_far
          (subst (λ i. IsEvent g.D.Disk.stands_for l.node new (keep i) Whole [] []) c.in-Some.ensures.0 c.in_ok-keep.ensures.event));
      others = others_on old l.node new l.invariant.others c.keep.ensures.others;
      counts = none_failed _ _ _ c.in_ok-keep.ensures.counts ∙ l.invariant.counts;
    }

pub returns-clause-event : goal.returns-clause-event
returns-clause-event g c =
    let old = c.args.node.now in
    let l = c.loop-past in
    all_kept g.D.Disk.stands_for old l.node old.cluster old.me c.args.first c.args.count l.past (omega arith) (inl (omega arith)) l.invariant.so_far

pub returns-in_err-keep-clause-others : goal.returns-in_err-keep-clause-others
returns-in_err-keep-clause-others g c = others_on c.args.node.now c.loop-past.node c.keep.new.self c.loop-past.invariant.others c.keep.ensures.others

pub returns-in_default-clause-counts : goal.returns-in_default-clause-counts
returns-in_default-clause-counts g c = all_fine _ _ _ c.loop-past.invariant.counts

pub returns-in_err-keep-clause-counts : goal.returns-in_err-keep-clause-counts
returns-in_err-keep-clause-counts g c = counts_on c.from_residual.result c.in_err-keep.field-0.0 _ _ _ c.from_residual.ensures.1 c.loop-past.invariant.counts c.in_err-keep.ensures.counts

pub returns-clause-counts : goal.returns-clause-counts
returns-clause-counts g c = all_fine _ _ _ c.loop-past.invariant.counts
