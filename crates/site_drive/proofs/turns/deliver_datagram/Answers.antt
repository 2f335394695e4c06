use Rattle.std.proofs.Common.{Err, inl, inr, refl, subst}
use Rattle.wire.specs.declared.message.Message.{Message}
use Rattle.wire.specs.Decoding.{Spells, Decodes}
use Rattle.site_drive.proofs.Turning.{taken, broken, passed, unread}
use Rattle.site_drive.proofs.Failing.{none_failed, all_fine, counts_on}
use Rattle.site_drive.proofs.turns.deliver_datagram.Goals as goal

pub returns-in-Ok-deliver-clause-taken : goal.returns-in-Ok-deliver-clause-taken
returns-in-Ok-deliver-clause-taken g c =
    taken g.D.Disk.stands_for c.args.node.now c.deliver.new.self c.args.datagram.now c.in-Ok.message c.args.outbox.now.items c.deliver.new.outbox.items
    (subst (λ k. Spells k c.args.datagram.now c.in-Ok.message) c.cluster.ensures c.in-Ok.ensures) c.in-Ok-deliver.ensures.event

pub returns-in-Err-Malformed-clause-taken : goal.returns-in-Err-Malformed-clause-taken
returns-in-Err-Malformed-clause-taken g c =
    let none = subst (λ f. Decodes c.cluster.result c.args.datagram.now (Err f)) c.in-Err-Malformed.field-0-is c.in-Err-Malformed.ensures in
    passed g.D.Disk.stands_for c.args.node.now c.args.datagram.now c.args.outbox.now.items (subst (λ k. (m : Message) → ¬ Spells k c.args.datagram.now m) c.cluster.ensures none)

pub returns-in-Ok-clause-broken : goal.returns-in-Ok-clause-broken
returns-in-Ok-clause-broken g c =
    broken g.D.Disk.stands_for c.args.node.now c.deliver.new.self c.args.datagram.now c.in-Ok.message c.args.outbox.now.items c.deliver.new.outbox.items
    (subst (λ k. Spells k c.args.datagram.now c.in-Ok.message) c.cluster.ensures c.in-Ok.ensures) c.in-Err.fault c.in-Err.ensures.event

pub returns-clause-broken : goal.returns-clause-broken
returns-clause-broken g c =
    let decodes = subst (λ f. Decodes c.cluster.result c.args.datagram.now (Err f)) c.in-Err-OutOfMemory.field-0-is c.in-Err-OutOfMemory.ensures in
    unread g.D.Disk.stands_for c.args.node.now c.args.datagram.now (decodes.0, subst (λ k. Spells k c.args.datagram.now decodes.0) c.cluster.ensures decodes.1)

pub returns-in-Ok-deliver-clause-counts : goal.returns-in-Ok-deliver-clause-counts
returns-in-Ok-deliver-clause-counts g c = all_fine _ _ _ (none_failed _ _ _ c.in-Ok-deliver.ensures.counts)

pub returns-in-Ok-clause-counts : goal.returns-in-Ok-clause-counts
returns-in-Ok-clause-counts g c = counts_on (Err c.in-Err.fault) c.in-Err.fault _ _ _ refl refl c.in-Err.ensures.counts

-- what is delivered is noted, and what spells nothing is not
pub returns-in-Ok-deliver-clause-noted : goal.returns-in-Ok-deliver-clause-noted
returns-in-Ok-deliver-clause-noted g c = inl (c.in-Ok.message, subst (λ k. Spells k c.args.datagram.now c.in-Ok.message) c.cluster.ensures c.in-Ok.ensures, c.note.ensures)

pub returns-in-Err-Malformed-clause-noted : goal.returns-in-Err-Malformed-clause-noted
returns-in-Err-Malformed-clause-noted g c =
    let none = subst (λ f. Decodes c.cluster.result c.args.datagram.now (Err f)) c.in-Err-Malformed.field-0-is c.in-Err-Malformed.ensures in
    inr (subst (λ k. (m : Message) → ¬ Spells k c.args.datagram.now m) c.cluster.ensures none, refl)
