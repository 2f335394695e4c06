use Rattle.std.proofs.Common.{◌≡◌, ℕ, Some, List, [], append-nil, ◌++◌, take, refl, sym, ap, subst, ◌∙◌}
use Rattle.site_drive.specs.Sending.{Counted}
use Rattle.site_drive.specs.Drives.{BreaksOff, Takes, sent_of}
use Rattle.site_drive.specs.Leading.{AllFit, NodeLeads}
use Rattle.site_drive.proofs.Calling.{alone}
use Rattle.site_drive.proofs.Counting.{counted_on}
use Rattle.site_drive.proofs.Results.{err_gives, same_err}
use Rattle.site_drive.proofs.Turning.{turned, turned_short, turned_off}
use Rattle.site_drive.proofs.Failing.{store_kept, none_failed, all_fine, counts_on, memory_alone}
use Rattle.site_drive.proofs.desk.Desk.turn.Goals as goal

-- src/turns.rt:82:25
pub returns-in_err-malformed-clause-fault : goal.returns-in_err-malformed-clause-fault
returns-in_err-malformed-clause-fault g c = err_gives c.from_residual.result c.from_residual.ensures.1 λ e is.
    turned_off g.D.Disk.stands_for g.L.Link.received g.L.Link.given c.args.node.now c.take_in.new.node c.args.link.now c.hear-came.new.link c.args.node.now.cluster c.args.node.now.me 0 []
    c.hear-came.result c.hear-came.new.self.datagram.items c.hear-came.ensures.heard c.hear-came.ensures.given e
    (λ h held. subst (λ w. NodeLeads g.D.Disk.stands_for c.args.node.now c.take_in.new.node (λ s next. (d : List ℕ) × (h ≡ Some d) × BreaksOff c.args.node.now.cluster c.args.node.now.me s d w next)) (sym is)
    (c.in_err-malformed.ensures.broken h held))

-- src/turns.rt:83:9
pub returns-in_err-publish-clause-fault : goal.returns-in_err-publish-clause-fault
returns-in_err-publish-clause-fault g c = err_gives c.from_residual-in_err-publish.result c.from_residual-in_err-publish.ensures.1 λ e is.
    turned_short g.D.Disk.stands_for g.L.Link.received g.L.Link.given c.args.node.now c.take_in.new.node c.args.link.now c.hear-came.new.link c.args.node.now.cluster c.args.node.now.me
    c.in_ok-malformed.malformed c.take_in.new.self.outbox.items
    c.hear-came.result c.hear-came.new.self.datagram.items c.hear-came.ensures.heard c.hear-came.ensures.given (λ h held. alone g.D.Disk.stands_for c.args.node.now c.take_in.new.node c.hear-came.new.self.outbox.items c.take_in.new.self.outbox.items
    (λ out s next. Takes c.args.node.now.cluster c.args.node.now.me s h c.in_ok-malformed.malformed out next) (ap (λ o. o.items) c.hear-came.ensures.outbox ∙ c.requires) (c.in_ok-malformed.ensures.taken h held))
    c.publish.new.self c.hear-came.new.link c.publish.ensures.same c.publish.ensures.on_disk (λ ds h. h) e (is ∙ same_err c.in_err-publish.ensures.err) (λ fits gs h. (0, subst (g.L.Link.given c.hear-came.new.link) (sym (append-nil gs)) h))

-- src/turns.rt:84:9
pub returns-in_err-send_all-clause-fault : goal.returns-in_err-send_all-clause-fault
returns-in_err-send_all-clause-fault g c = err_gives c.from_residual-in_err-send_all.result c.from_residual-in_err-send_all.ensures.1 λ e is.
    turned_short g.D.Disk.stands_for g.L.Link.received g.L.Link.given c.args.node.now c.take_in.new.node c.args.link.now c.hear-came.new.link c.args.node.now.cluster c.args.node.now.me
    c.in_ok-malformed.malformed c.take_in.new.self.outbox.items
    c.hear-came.result c.hear-came.new.self.datagram.items c.hear-came.ensures.heard c.hear-came.ensures.given (λ h held. alone g.D.Disk.stands_for c.args.node.now c.take_in.new.node c.hear-came.new.self.outbox.items c.take_in.new.self.outbox.items
    (λ out s next. Takes c.args.node.now.cluster c.args.node.now.me s h c.in_ok-malformed.malformed out next) (ap (λ o. o.items) c.hear-came.ensures.outbox ∙ c.requires) (c.in_ok-malformed.ensures.taken h held))
    c.publish.new.self c.send_all.new.link c.publish.ensures.same c.publish.ensures.on_disk c.send_all.ensures.received e is
    (subst (λ k. AllFit c.take_in.new.self.outbox.items → (gs : List (ℕ × List ℕ)) → g.L.Link.given c.hear-came.new.link gs
    → (i : ℕ) × g.L.Link.given c.send_all.new.link (gs ++ take i (sent_of k c.take_in.new.self.outbox.items)))
    (c.cluster.ensures ∙ c.publish.ensures.whose.1 ∙ c.take_in.ensures.others.cluster) c.in_err-send_all.ensures.refused)

-- src/turns.rt:84:9
pub returns-in_err-send_all-clause-counted : goal.returns-in_err-send_all-clause-counted
returns-in_err-send_all-clause-counted g c =
    counted_on _ _ _ _ _ _ c.hear-came.ensures.counted
    (subst (λ k. Counted k c.send_all.new.failed (g.L.Link.failed c.hear-came.new.link) (g.L.Link.failed c.send_all.new.link)) c.take_in.ensures.counted c.send_all.ensures.counted)

-- src/turns.rt:67:5
pub returns-clause-ok : goal.returns-clause-ok
returns-clause-ok g c =
    turned g.D.Disk.stands_for g.L.Link.received g.L.Link.given c.args.node.now c.take_in.new.node c.args.link.now c.hear-came.new.link c.args.node.now.cluster c.args.node.now.me
    c.in_ok-malformed.malformed c.take_in.new.self.outbox.items
    c.hear-came.result c.hear-came.new.self.datagram.items c.hear-came.ensures.heard c.hear-came.ensures.given (λ h held. alone g.D.Disk.stands_for c.args.node.now c.take_in.new.node c.hear-came.new.self.outbox.items c.take_in.new.self.outbox.items
    (λ out s next. Takes c.args.node.now.cluster c.args.node.now.me s h c.in_ok-malformed.malformed out next) (ap (λ o. o.items) c.hear-came.ensures.outbox ∙ c.requires) (c.in_ok-malformed.ensures.taken h held))
    c.publish.new.self c.send_all.new.link c.publish.ensures.same c.publish.ensures.on_disk c.send_all.ensures.received c.in_ok-publish.ensures.ok.1
    (subst (λ k. AllFit c.take_in.new.self.outbox.items → (gs : List (ℕ × List ℕ)) → g.L.Link.given c.hear-came.new.link gs
    → g.L.Link.given c.send_all.new.link (gs ++ sent_of k c.take_in.new.self.outbox.items))
    (c.cluster.ensures ∙ c.publish.ensures.whose.1 ∙ c.take_in.ensures.others.cluster) c.in_ok-send_all.ensures.given)

-- src/turns.rt:67:5
pub returns-clause-counted : goal.returns-clause-counted
returns-clause-counted g c =
    counted_on _ _ _ _ _ _ c.hear-came.ensures.counted
    (subst (λ k. Counted k c.send_all.new.failed (g.L.Link.failed c.hear-came.new.link) (g.L.Link.failed c.send_all.new.link)) c.take_in.ensures.counted c.send_all.ensures.counted)

pub returns-in_err-malformed-clause-counts : goal.returns-in_err-malformed-clause-counts
returns-in_err-malformed-clause-counts g c = counts_on c.from_residual.result c.in_err-malformed.field-0.0 _ _ _ c.from_residual.ensures.1 refl c.in_err-malformed.ensures.counts

pub returns-in_err-publish-clause-counts : goal.returns-in_err-publish-clause-counts
returns-in_err-publish-clause-counts g c =
    memory_alone c.from_residual-in_err-publish.result _ _ _ c.from_residual-in_err-publish.ensures.1 (same_err c.in_err-publish.ensures.err)
    (store_kept g.D.Disk.failed _ _ c.publish.ensures.store ∙ none_failed _ _ _ c.in_ok-malformed.ensures.counts)

pub returns-in_err-send_all-clause-counts : goal.returns-in_err-send_all-clause-counts
returns-in_err-send_all-clause-counts g c =
    memory_alone c.from_residual-in_err-send_all.result _ _ _ c.from_residual-in_err-send_all.ensures.1 refl
    (store_kept g.D.Disk.failed _ _ c.publish.ensures.store ∙ none_failed _ _ _ c.in_ok-malformed.ensures.counts)

pub returns-clause-counts : goal.returns-clause-counts
returns-clause-counts g c = all_fine _ _ _ (store_kept g.D.Disk.failed _ _ c.publish.ensures.store ∙ none_failed _ _ _ c.in_ok-malformed.ensures.counts)
