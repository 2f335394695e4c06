use Rattle.release.proofs.Receipts.{receipt_is_first, receipt_is_none, receipt_stays, repeat_has_receipt}
use Rattle.release.proofs.laws.receipts_are_first.Goals as goal

pub returns-clause-first : goal.returns-clause-first
returns-clause-first c = receipt_is_first

pub returns-clause-none : goal.returns-clause-none
returns-clause-none c = receipt_is_none

pub returns-clause-stays : goal.returns-clause-stays
returns-clause-stays c = receipt_stays

pub returns-clause-repeat : goal.returns-clause-repeat
returns-clause-repeat c = repeat_has_receipt
