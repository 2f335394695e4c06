use Rattle.std.proofs.Common.{◌≡◌, true, false, cond, sym, ap, ◌∙◌, subst}
use Rattle.command.specs.Effective.{commands_of, has_ticket, is_same_ticket, effective}
use Rattle.content.specs.View.{keys}
use Rattle.content.specs.Standing.{IsSiteOf, is_held}
use Rattle.content.specs.contracts.site.Site.{the_view}
use Rattle.content.proofs.Names.{on_if_ok}
use Rattle.content.proofs.Tickets.{found_held}
use Rattle.content.proofs.Values.{repeated, taken}
use Rattle.content.proofs.site.Site.apply_command.Goals as goal

pub returns-then-contains-clause-ok : goal.returns-then-contains-clause-ok
returns-then-contains-clause-ok c values v order reads stands is =
    let was = c.self.inside in
    let ticket = c.args.command.ticket in
    let site : IsSiteOf (the_view was) values = subst (λ s. IsSiteOf s values) (sym c.self.view_is) is in
    let held : is_held ticket (keys was.tickets) ≡ true = sym (found_held ticket was.tickets) ∙ sym c.contains.ensures ∙ c.if-contains.true in
    let has : has_ticket order.ticket (commands_of values) ≡ true = sym (site.tickets order.ticket) ∙ ap (λ t. is_held t (keys was.tickets)) (sym stands.0) ∙ held in
    repeated c.args.self.now values v order reads has is

pub returns-in-Ok-clause-ok : goal.returns-in-Ok-clause-ok
returns-in-Ok-clause-ok c = on_if_ok c.act.result (λ a acted values v order reads stands is.
    let was = c.self.inside in
    let ticket = c.args.command.ticket in
    let site : IsSiteOf (the_view was) values = subst (λ s. IsSiteOf s values) (sym c.self.view_is) is in
    let none : is_held ticket (keys was.tickets) ≡ false = sym (found_held ticket was.tickets) ∙ sym c.contains.ensures ∙ c.if-contains.false in
    let never : has_ticket order.ticket (commands_of values) ≡ false = sym (site.tickets order.ticket) ∙ ap (λ t. is_held t (keys was.tickets)) (sym stands.0) ∙ none in
    taken (the_view was) c.act.new.self values v order a reads never site
    (λ t. ap (is_held t) acted.0 ∙ subst (λ k. is_held t (keys c.in-Ok.tickets) ≡ cond (is_same_ticket k t) true (is_held t (keys was.tickets))) stands.0 (c.in-Ok.ensures t))
    (acted.1 (effective values) order stands.1 is.contents)) c.act.ensures.ok
