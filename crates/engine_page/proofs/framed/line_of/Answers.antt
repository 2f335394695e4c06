use Rattle.engine_page.proofs.WordLemmas.{no_line, no_first, no_second}
use Rattle.engine_page.proofs.framed.line_of.Goals as goal

pub returns-in_err-line : goal.returns-in_err-line
returns-in_err-line c = rw c.from_residual.ensures (λ w. no_line _ w c.in_err-line.ensures)

pub returns-in_err-editor : goal.returns-in_err-editor
returns-in_err-editor c = rw c.from_residual-in_err-editor.ensures (λ w. no_first _ _ _ w c.in_ok-line.ensures c.in_err-editor.ensures)

pub returns-in_err-number : goal.returns-in_err-number
returns-in_err-number c =
    rw c.from_residual-in_err-number.ensures (λ w. no_second _ _ _ _ _ w c.in_ok-line.ensures c.in_ok-editor.ensures c.in_err-number.ensures)
