use Rattle.std.proofs.Common.{refl, sym, subst}
use Rattle.node.specs.Endings.{Whole}
use Rattle.node.specs.Standing.{ending_of}
use Rattle.site_drive.proofs.Calling.{asked, told, kept_called, none_called}
use Rattle.site_drive.proofs.Closing.{Ended}
use Rattle.node.proofs.DeviceCounts.{counts_none}
use Rattle.site_drive.proofs.Failing.{store_kept}
use Rattle.site_drive.proofs.desk.Desk.call.Goals as goal

pub returns-in-Ask-clause-event : goal.returns-in-Ask-clause-event
returns-in-Ask-clause-event g c =
    subst (λ last. Ended g.D.Disk.stands_for c.args.node.now c.ask.new.self last c.args.self.now.outbox.items c.ask.new.outbox.items (ending_of c.ask.result))
    (sym c.in-Ask.is) (asked g.D.Disk.stands_for c.args.node.now c.ask.new.self (ending_of c.ask.result) c.args.self.now.outbox.items c.ask.new.outbox.items c.ask.ensures.event)

pub returns-in-Tell-clause-event : goal.returns-in-Tell-clause-event
returns-in-Tell-clause-event g c =
    subst (λ last. Ended g.D.Disk.stands_for c.args.node.now c.args.node.now last c.args.self.now.outbox.items c.tell.new.outbox.items (ending_of c.tell.result))
    (sym c.in-Tell.is) (told g.D.Disk.stands_for c.args.node.now c.args.node.now (ending_of c.tell.result) c.args.self.now.outbox.items c.tell.new.outbox.items c.in-Tell.to c.in-Tell.first c.tell.ensures.event)

pub returns-in-Keep-clause-event : goal.returns-in-Keep-clause-event
returns-in-Keep-clause-event g c =
    let old = c.args.node.now in
    let new = c.keep_each.new.node in
    let out = c.args.self.now.outbox.items in
    subst (λ last. Ended g.D.Disk.stands_for old new last out out (ending_of c.keep_each.result))
    (sym c.in-Keep.is) (kept_called g.D.Disk.stands_for old new old.cluster old.me c.in-Keep.first c.in-Keep.count (ending_of c.keep_each.result) out c.keep_each.ensures.event)

pub returns-in-Nothing-clause-event : goal.returns-in-Nothing-clause-event
returns-in-Nothing-clause-event g c =
    subst (λ last. Ended g.D.Disk.stands_for c.args.node.now c.args.node.now last c.args.self.now.outbox.items c.args.self.now.outbox.items Whole)
    (sym c.in-Nothing.is) (none_called g.D.Disk.stands_for c.args.node.now c.args.node.now.cluster c.args.node.now.me c.args.self.now.outbox.items)

pub returns-in-Tell-clause-counts : goal.returns-in-Tell-clause-counts
returns-in-Tell-clause-counts g c = counts_none _ _ _ c.tell.ensures.no_put refl

pub returns-in-Ask-clause-counts : goal.returns-in-Ask-clause-counts
returns-in-Ask-clause-counts g c = counts_none _ _ _ c.ask.ensures.no_put.0 (store_kept g.D.Disk.failed _ _ c.ask.ensures.no_put.1)
