use Rattle.std.proofs.Common.{sym, ap, ◌∙◌, subst}
use Rattle.command.specs.Action.{remove}
use Rattle.command.specs.Standing.{StandsAs}
use Rattle.command.specs.View.{kind_view}
use Rattle.content.specs.Standing.{HasContents}
use Rattle.content.specs.contracts.contents.Contents.{the_view}
use Rattle.content.proofs.Actions.{template_put, partial_put, data_put, route_put, redirect_put, removes, released}
use Rattle.content.proofs.Names.{when_ok}
use Rattle.content.proofs.contents.Contents.act.Goals as goal
use Rattle.content.proofs.contents.Contents.act.Goals.{in-PutTemplate, in-PutPartial, in-PutData, in-PutRoute, in-PutRedirect, in-Remove}

pub returns-in-Release-clause-ok : goal.returns-in-Release-clause-ok
returns-in-Release-clause-ok c orders order stands h = released c.args.self.now orders order.ticket order.action (subst (λ a. StandsAs a order.action) c.in-Release.is stands) h

pub returns-clause-ok : goal.returns-clause-ok
returns-clause-ok c orders order stands h = elim c.match-action.branch [
  | in-PutTemplate w ↦ rw w.self-is (template_put (the_view w.self.inside) w.put-done.new.map w.in-PutTemplate.name w.in-PutTemplate.template orders order.ticket order.action
      (when_ok w.put-done.result c.in_ok-done.field-0 (sym w.done-is ∙ c.in_ok-done.was) w.put-done.ensures.ok)
      (subst (λ a. StandsAs a order.action) w.in-PutTemplate.is stands) (subst (λ s. HasContents s orders) (sym w.self.view_is) h))
  | in-PutPartial w ↦ rw w.self-is (partial_put (the_view w.self-in-PutPartial.inside) w.put-done-in-PutPartial.new.map w.in-PutPartial.name w.in-PutPartial.template orders order.ticket order.action
      (when_ok w.put-done-in-PutPartial.result c.in_ok-done.field-0 (sym w.done-is ∙ c.in_ok-done.was) w.put-done-in-PutPartial.ensures.ok)
      (subst (λ a. StandsAs a order.action) w.in-PutPartial.is stands) (subst (λ s. HasContents s orders) (sym w.self-in-PutPartial.view_is) h))
  | in-PutData w ↦ rw w.self-is (data_put (the_view w.self-in-PutData.inside) w.put-done-in-PutData.new.map w.in-PutData.name w.in-PutData.page_data orders order.ticket order.action
      (when_ok w.put-done-in-PutData.result c.in_ok-done.field-0 (sym w.done-is ∙ c.in_ok-done.was) w.put-done-in-PutData.ensures.ok)
      (subst (λ a. StandsAs a order.action) w.in-PutData.is stands) (subst (λ s. HasContents s orders) (sym w.self-in-PutData.view_is) h))
  | in-PutRoute w ↦ rw w.self-is (route_put (the_view w.self-in-PutRoute.inside) w.put-done-in-PutRoute.new.map w.in-PutRoute.path w.in-PutRoute.template w.in-PutRoute.page_data orders order.ticket order.action
      (when_ok w.put-done-in-PutRoute.result c.in_ok-done.field-0 (sym w.done-is ∙ c.in_ok-done.was) w.put-done-in-PutRoute.ensures.ok)
      (subst (λ a. StandsAs a order.action) w.in-PutRoute.is stands) (subst (λ s. HasContents s orders) (sym w.self-in-PutRoute.view_is) h))
  | in-PutRedirect w ↦ rw w.self-is (redirect_put (the_view w.self-in-PutRedirect.inside) w.put-done-in-PutRedirect.new.map w.in-PutRedirect.path w.in-PutRedirect.target orders order.ticket order.action
      (when_ok w.put-done-in-PutRedirect.result c.in_ok-done.field-0 (sym w.done-is ∙ c.in_ok-done.was) w.put-done-in-PutRedirect.ensures.ok)
      (subst (λ a. StandsAs a order.action) w.in-PutRedirect.is stands) (subst (λ s. HasContents s orders) (sym w.self-in-PutRedirect.view_is) h))
  | in-Remove w ↦
      let gone = when_ok w.remove-done.result c.in_ok-done.field-0 (sym w.done-is ∙ c.in_ok-done.was) w.remove-done.ensures.removed in
      let is = removes w.in-Remove.kind w.in-Remove.name order.action (subst (λ a. StandsAs a order.action) w.in-Remove.is stands) in
      (rw w.self-is (gone orders order (is.0 ∙ sym (ap (remove (kind_view w.in-Remove.kind)) w.deref.ensures)) h), is.1)
]
