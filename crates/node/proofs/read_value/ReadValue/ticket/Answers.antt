use Rattle.std.proofs.Common.{◌≡◌, Some, sym, ap, subst, ◌∙◌}
use Rattle.site_ids.specs.declared.Ticket.{Ticket}
use Rattle.node.specs.Tickets.{ticket_by, ticket_in}
use Rattle.node.proofs.read_value.ReadValue.ticket.Goals as goal

pub returns : goal.returns
returns c =
    let is = c.self.invariant in
    let k = c.self.inside.command.ticket in
    subst (λ v. ticket_in v ≡ Some k) c.self.view_is (ap ticket_by is.1 ∙ ap (λ (t : Ticket). Some t) (sym is.2.0))
