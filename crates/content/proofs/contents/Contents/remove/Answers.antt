use Rattle.std.proofs.Common.{sym, ap, ◌∙◌, subst}
use Rattle.command.specs.Action.{remove}
use Rattle.command.specs.View.{kind_view}
use Rattle.content.specs.Standing.{HasContents}
use Rattle.content.specs.contracts.contents.Contents.{the_view}
use Rattle.content.proofs.Actions.{template_removed, partial_removed, data_removed, route_removed, redirect_removed}
use Rattle.content.proofs.Names.{on_ok}
use Rattle.content.proofs.contents.Contents.remove.Goals as goal

pub returns-in-Template-clause-removed : goal.returns-in-Template-clause-removed
returns-in-Template-clause-removed c =
    on_ok c.take_away.result
    (λ written orders order is h.
    template_removed (the_view c.self.inside) c.take_away.new.map c.args.name.now orders order written (is ∙ ap (λ k. remove (kind_view k) c.args.name.now) c.in-Template.is)
    (subst (λ s. HasContents s orders) (sym c.self.view_is) h)) c.take_away.ensures.ok

pub returns-in-Partial-clause-removed : goal.returns-in-Partial-clause-removed
returns-in-Partial-clause-removed c =
    on_ok c.take_away-in-Partial.result
    (λ written orders order is h.
    partial_removed (the_view c.self.inside) c.take_away-in-Partial.new.map c.args.name.now orders order written (is ∙ ap (λ k. remove (kind_view k) c.args.name.now) c.in-Partial.is)
    (subst (λ s. HasContents s orders) (sym c.self.view_is) h)) c.take_away-in-Partial.ensures.ok

pub returns-in-Data-clause-removed : goal.returns-in-Data-clause-removed
returns-in-Data-clause-removed c =
    on_ok c.take_away-in-Data.result
    (λ written orders order is h.
    data_removed (the_view c.self.inside) c.take_away-in-Data.new.map c.args.name.now orders order written (is ∙ ap (λ k. remove (kind_view k) c.args.name.now) c.in-Data.is)
    (subst (λ s. HasContents s orders) (sym c.self.view_is) h)) c.take_away-in-Data.ensures.ok

pub returns-in-Route-clause-removed : goal.returns-in-Route-clause-removed
returns-in-Route-clause-removed c =
    on_ok c.take_away-in-Route.result
    (λ written orders order is h.
    route_removed (the_view c.self.inside) c.take_away-in-Route.new.map c.args.name.now orders order written (is ∙ ap (λ k. remove (kind_view k) c.args.name.now) c.in-Route.is)
    (subst (λ s. HasContents s orders) (sym c.self.view_is) h)) c.take_away-in-Route.ensures.ok

pub returns-in-Redirect-clause-removed : goal.returns-in-Redirect-clause-removed
returns-in-Redirect-clause-removed c =
    on_ok c.take_away-in-Redirect.result
    (λ written orders order is h.
    redirect_removed (the_view c.self.inside) c.take_away-in-Redirect.new.map c.args.name.now orders order written (is ∙ ap (λ k. remove (kind_view k) c.args.name.now) c.in-Redirect.is)
    (subst (λ s. HasContents s orders) (sym c.self.view_is) h)) c.take_away-in-Redirect.ensures.ok
