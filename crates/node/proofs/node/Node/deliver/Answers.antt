use Rattle.std.proofs.Common.{Ok, refl, sym, subst, ◌∙◌}
use Rattle.node.specs.Calls.{deliver as delivery}
use Rattle.node.specs.Endings.{Ending, Whole}
use Rattle.node.specs.Standing.{counted, IsEvent}
use Rattle.node.proofs.Stepping.{carried, ending_err, refused_stopped}
use Rattle.node.proofs.node.Node.deliver.Goals as goal

pub returns-then-is_stopped-clause-event : goal.returns-then-is_stopped-clause-event
returns-then-is_stopped-clause-event g c = refused_stopped g.D.Disk.stands_for c.args.self.now (delivery c.args.message.now) _ c.requires (sym c.is_stopped.ensures ∙ c.if-is_stopped.true)

pub returns-in_err-handle-clause-event : goal.returns-in_err-handle-clause-event
returns-in_err-handle-clause-event g c =
    subst (λ (ending : Ending). IsEvent g.D.Disk.stands_for c.args.self.now c.handle.new.self (delivery c.args.message.now) ending c.args.outbox.now.items c.handle.new.outbox.items) (sym (ending_err c.from_residual.result c.in_err-handle.field-0.0 c.from_residual.ensures.1))
    (c.in_err-handle.ensures c.requires).event

pub returns-clause-event : goal.returns-clause-event
returns-clause-event g c =
    carried g.D.Disk.stands_for c.args.self.now (counted c.args.self.now c.args.message.now (Ok tt) c.handle.new.self) _ (delivery c.args.message.now) Whole _ _ (record { me = refl; cluster = refl; releases = refl }) refl
    (record { learner = refl; known = refl; queue = refl; attempts = λ a are. are; heard = refl }) c.reached_with-reached.ensures
    (c.in_ok-handle.ensures c.requires).event
