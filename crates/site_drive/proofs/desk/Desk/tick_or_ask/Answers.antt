use Rattle.std.proofs.Common.{◌≡◌, true, false, refl, sym, subst, ◌∙◌}
use Rattle.node.specs.Standing.{ending_of, ending_by}
use Rattle.site_drive.specs.declared.last_call.LastCall.TheVariants.{TickOrAsk}
use Rattle.site_drive.proofs.Calling.{asked_instead, tick_short, not_whole, ticked}
use Rattle.site_drive.proofs.Closing.{Ended}
use Rattle.node.proofs.DeviceCounts.{counts_none}
use Rattle.node.proofs.Stepping.{ending_err}
use Rattle.site_drive.proofs.Failing.{store_kept, none_failed, counts_on, counts_behind}
use Rattle.site_drive.proofs.desk.Desk.tick_or_ask.Goals as goal

pub returns-then-not-wants_tick-clause-event : goal.returns-then-not-wants_tick-clause-event
returns-then-not-wants_tick-clause-event g c =
    asked_instead g.D.Disk.stands_for c.args.node.now c.ask.new.self (ending_of c.ask.result) c.args.self.now.outbox.items c.ask.new.outbox.items
    (λ s stands wants. let yet : true ≡ false = sym ((c.wants_tick.ensures s stands).1 wants) ∙ c.if-not-wants_tick.true in absurd (cc)) c.ask.ensures.event

pub returns-in_err-tick-clause-event : goal.returns-in_err-tick-clause-event
returns-in_err-tick-clause-event g c =
    let why = c.in_err-tick.field-0.0 in
    subst (Ended g.D.Disk.stands_for c.args.node.now c.tick.new.self TickOrAsk c.args.self.now.outbox.items c.tick.new.outbox.items) (sym (ending_err c.from_residual.result why c.from_residual.ensures.1))
    (tick_short g.D.Disk.stands_for c.args.node.now c.tick.new.self (ending_by why) c.args.self.now.outbox.items c.tick.new.outbox.items (not_whole why)
    (λ s stands. (c.wants_tick.ensures s stands).0 c.if-not-wants_tick.false) c.in_err-tick.ensures.event)

pub returns-clause-event : goal.returns-clause-event
returns-clause-event g c =
    ticked g.D.Disk.stands_for c.args.node.now c.tick.new.self c.widen_all.new.node c.tick.ensures.others c.args.self.now.outbox.items c.tick.new.outbox.items c.widen_all.new.self.outbox.items
    (ending_of c.widen_all.result) (λ s stands. (c.wants_tick.ensures s stands).0 c.if-not-wants_tick.false) c.in_ok-tick.ensures.event c.widen_all.ensures.event

pub returns-then-not-wants_tick-clause-counts : goal.returns-then-not-wants_tick-clause-counts
returns-then-not-wants_tick-clause-counts g c = counts_none _ _ _ c.ask.ensures.no_put.0 (store_kept g.D.Disk.failed _ _ c.ask.ensures.no_put.1)

pub returns-in_err-tick-clause-counts : goal.returns-in_err-tick-clause-counts
returns-in_err-tick-clause-counts g c = counts_on c.from_residual.result c.in_err-tick.field-0.0 _ _ _ c.from_residual.ensures.1 refl c.in_err-tick.ensures.counts

pub returns-clause-counts : goal.returns-clause-counts
returns-clause-counts g c = counts_behind _ _ _ _ (none_failed _ _ _ c.in_ok-tick.ensures.counts) c.widen_all.ensures.counts
