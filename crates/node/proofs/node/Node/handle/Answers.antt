use Rattle.std.proofs.Common.{◌≡◌, Ok, ℕ, sym, ap, subst, ◌∙◌, rules}
use Rattle.std.specs.Prelude.{Option, Result}
use Rattle.site_disk.specs.Model.{DiskState}
use Rattle.site_ids.specs.declared.value.Vote.{Vote}
use Rattle.wire.specs.declared.message.Message.{Message}
use Rattle.wire.specs.declared.message.Message.TheVariants.{Promise}
use Rattle.node.specs.declared.fault.NodeFault.{NodeFault}
use Rattle.node.specs.declared.node.Node.{Node as Running}
use Rattle.node.specs.Standing.{IsHandled}
use Rattle.node.proofs.Stepping.{Handed}
use Rattle.node.proofs.node.Node.handle.Goals as goal

-- the message is this one
so_it : {D : Type 0} (stands_for : D → DiskState → Type 0) (failed : D → ℕ) (old new : Running D) (m it : Message) (r : Result (Unit {0}) NodeFault) (before after : Handed) → m ≡ it → IsHandled stands_for failed old new it r before after → IsHandled stands_for failed old new m r before after
so_it stands_for failed old new m it r before after is = subst (λ (x : Message). IsHandled stands_for failed old new x r before after) (sym is)

pub returns-in-Prepare : goal.returns-in-Prepare
returns-in-Prepare g c = so_it g.D.Disk.stands_for g.D.Disk.failed _ _ _ _ _ _ _ c.in-Prepare.is (c.on_prepare.ensures c.in-Prepare.from)

pub returns-in-Promise : goal.returns-in-Promise
returns-in-Promise g c =
    let m = c.in-Promise in
    so_it g.D.Disk.stands_for g.D.Disk.failed _ _ _ _ _ _ _ (m.is ∙ ap (λ (prior : Option Vote). Promise m.from m.instance m.ballot prior) (sym c.as_ref.ensures.value)) c.on_promise.ensures

pub returns-in-Propose : goal.returns-in-Propose
returns-in-Propose g c = so_it g.D.Disk.stands_for g.D.Disk.failed _ _ _ _ _ _ _ c.in-Propose.is (c.on_propose.ensures c.in-Propose.from)

pub returns-in-Accepted : goal.returns-in-Accepted
returns-in-Accepted g c = so_it g.D.Disk.stands_for g.D.Disk.failed _ _ _ _ _ _ _ c.in-Accepted.is (c.on_accepted.ensures c.args.outbox.now.items)

pub returns-in-Nack : goal.returns-in-Nack
returns-in-Nack g c =
    let m = c.in-Nack in
    so_it g.D.Disk.stands_for g.D.Disk.failed _ c.on_nack.new.self _ _ (Ok tt) _ _ m.is (c.on_nack.ensures m.from m.instance m.asked c.args.outbox.now.items)

pub returns-in-Ask : goal.returns-in-Ask
returns-in-Ask g c = so_it g.D.Disk.stands_for g.D.Disk.failed _ _ _ _ _ _ _ c.in-Ask.is c.on_ask.ensures

pub returns-in-Chosen : goal.returns-in-Chosen
returns-in-Chosen g c = search rules
