use Rattle.editor_ledger.proofs.Tickets.{one_text}
use Rattle.editor_ledger.proofs.laws.each_ticket_has_one_text.Goals as goal

pub returns : goal.returns
returns c = one_text
