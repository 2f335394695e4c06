use Rattle.std.proofs.Common.{◌≡◌, true, sym, subst}
use Rattle.std.specs.Prelude.{is_some}
use Rattle.release.specs.Receipts.{receipt_of}
use Rattle.node.proofs.Published.{fed_receipt}
use Rattle.node.proofs.read_value.feed_value.Goals as goal

pub returns-then-is_of-clause-receipt : goal.returns-then-is_of-clause-receipt
returns-then-is_of-clause-receipt c =
    subst (λ vs. is_some (receipt_of c.ticket-ticket.result vs) ≡ true) (sym c.in_ok-feed.ensures.ok) (fed_receipt c.ticket-ticket.result c.args.releases.now c.in-Some.read c.ticket-ticket.ensures)
