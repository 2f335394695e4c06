use Rattle.std.proofs.Common.{ap, ◌∙◌}
use Rattle.editor_ledger.specs.Spelling.{spelled}
use Rattle.editor_ledger.proofs.Readings.{fails}
use Rattle.editor_ledger.proofs.ledger.Ledger.read.Goals as goal

pub returns-in_err-ledger-clause-refused : goal.returns-in_err-ledger-clause-refused
returns-in_err-ledger-clause-refused c = fails c.from_residual.result c.from_residual.ensures.1 (λ e why other book file is.
    let full = c.in_err-ledger.ensures book file is in
    other (cc))

pub returns-in_err-is_spelled-clause-refused : goal.returns-in_err-is_spelled-clause-refused
returns-in_err-is_spelled-clause-refused c = fails c.from_residual-in_err-is_spelled.result c.from_residual-in_err-is_spelled.ensures.1 (λ e why other book file is.
    c.in_err-is_spelled.ensures.refused (λ full. other (cc)) (ap spelled (c.in_ok-ledger.ensures book file is) ∙ is))
