use Rattle.std.proofs.Common.{◌++◌, ℕ, List, take, refl, subst, ◌∙◌}
use Rattle.site_drive.specs.Drives.{EndsTurns, sent_of}
use Rattle.site_drive.specs.Leading.{AllFit}
use Rattle.site_drive.proofs.Calling.{alone}
use Rattle.site_drive.proofs.Results.{err_gives}
use Rattle.site_drive.proofs.Closing.{closes, closes_short, not_closed}
use Rattle.site_drive.proofs.Failing.{none_failed, all_fine, counts_on, memory_alone}
use Rattle.site_drive.proofs.desk.Desk.close.Goals as goal

pub returns-in_err-last_call-clause-fault : goal.returns-in_err-last_call-clause-fault
returns-in_err-last_call-clause-fault g c = err_gives c.from_residual.result c.from_residual.ensures.1 λ e is.
    not_closed g.D.Disk.stands_for g.L.Link.received g.L.Link.given c.args.node.now c.last_call.new.node c.args.link.now c.args.last _ _ _ e is c.in_err-last_call.ensures.other c.in_err-last_call.ensures.fault

pub returns-in_err-send_all-clause-fault : goal.returns-in_err-send_all-clause-fault
returns-in_err-send_all-clause-fault g c = err_gives c.from_residual-in_err-send_all.result c.from_residual-in_err-send_all.ensures.1 λ e is.
    closes_short g.D.Disk.stands_for g.L.Link.received g.L.Link.given c.args.node.now c.last_call.new.node c.args.link.now c.send_all.new.link c.args.last _ _ c.last_call.new.self.outbox.items
    c.send_all.ensures.received (alone g.D.Disk.stands_for c.args.node.now c.last_call.new.node c.args.self.now.outbox.items c.last_call.new.self.outbox.items
    (λ out s next. EndsTurns c.args.last c.args.node.now.cluster c.args.node.now.me s out next) c.requires c.in_ok-last_call.ensures.ok) e is
    (subst (λ k. AllFit c.last_call.new.self.outbox.items → (gs : List (ℕ × List ℕ)) → g.L.Link.given c.args.link.now gs
    → (i : ℕ) × g.L.Link.given c.send_all.new.link (gs ++ take i (sent_of k c.last_call.new.self.outbox.items)))
    (c.cluster.ensures ∙ c.last_call.ensures.others.cluster) c.in_err-send_all.ensures.refused)

pub returns-clause-ok : goal.returns-clause-ok
returns-clause-ok g c =
    closes g.D.Disk.stands_for g.L.Link.received g.L.Link.given c.args.node.now c.last_call.new.node c.args.link.now c.send_all.new.link c.args.last _ _ c.last_call.new.self.outbox.items
    c.send_all.ensures.received
    (alone g.D.Disk.stands_for c.args.node.now c.last_call.new.node c.args.self.now.outbox.items c.last_call.new.self.outbox.items
    (λ out s next. EndsTurns c.args.last c.args.node.now.cluster c.args.node.now.me s out next) c.requires c.in_ok-last_call.ensures.ok)
    (subst (λ k. AllFit c.last_call.new.self.outbox.items → (gs : List (ℕ × List ℕ)) → g.L.Link.given c.args.link.now gs
    → g.L.Link.given c.send_all.new.link (gs ++ sent_of k c.last_call.new.self.outbox.items))
    (c.cluster.ensures ∙ c.last_call.ensures.others.cluster) c.in_ok-send_all.ensures.given)

pub returns-in_err-last_call-clause-counts : goal.returns-in_err-last_call-clause-counts
returns-in_err-last_call-clause-counts g c = counts_on c.from_residual.result c.in_err-last_call.field-0.0 _ _ _ c.from_residual.ensures.1 refl c.in_err-last_call.ensures.counts

pub returns-in_err-send_all-clause-counts : goal.returns-in_err-send_all-clause-counts
returns-in_err-send_all-clause-counts g c = memory_alone c.from_residual-in_err-send_all.result _ _ _ c.from_residual-in_err-send_all.ensures.1 refl (none_failed _ _ _ c.in_ok-last_call.ensures.counts)

pub returns-clause-counts : goal.returns-clause-counts
returns-clause-counts g c = all_fine _ _ _ (none_failed _ _ _ c.in_ok-last_call.ensures.counts)
