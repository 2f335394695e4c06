use Rattle.std.proofs.Common.{◌≡◌, true, Option, subst}
use Rattle.std.specs.Prelude.{IfSome, is_some}
use Rattle.site_ids.specs.declared.Ticket.{Ticket}
use Rattle.release.specs.Receipts.{receipt_of}
use Rattle.node.proofs.Published.{taken_out}
use Rattle.node.proofs.publishing.drop_published.Goals as goal

pub returns-in-Some : goal.returns-in-Some
returns-in-Some c published had =
    let receipt = subst (λ (o : Option Ticket). IfSome o (λ t. is_some (receipt_of t published) ≡ true)) c.in-Some.is had in
    taken_out c.in-Some.ticket c.args.tickets.now c.remove.new.self published c.remove.ensures.updates receipt
