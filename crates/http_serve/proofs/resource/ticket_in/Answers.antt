use Rattle.std.proofs.Common.{◌≡◌, ◌∙◌, ◌+◌, ◌-◌, sym, arith, take, drop, length, decimal, length-drop}
use Rattle.std.proofs.lemmas.List.{take_all}
use Rattle.std.proofs.lemmas.Fmt.{decimal_injective}
use Rattle.http_serve.proofs.Slashes.{nothing_before, number_before}
use Rattle.http_serve.proofs.resource.ticket_in.Goals as goal

pub returns-in_err-at : goal.returns-in_err-at
returns-in_err-at c = rw c.from_residual.ensures (λ e k small fits is. nothing_before c.args.rest.now (decimal k) e is c.in_err-at.ensures)

pub returns-in_err-editor : goal.returns-in_err-editor
returns-in_err-editor c = rw c.from_residual-in_err-editor.ensures (λ e k small fits is.
    c.in_err-editor.ensures e (omega (arith, small))
    (number_before c.args.rest.now (decimal k) e c.in_ok-at.at (omega (arith, small)) is c.in_ok-at.ensures.1 c.in_ok-at.ensures.2).0)

pub returns-in_err-number : goal.returns-in_err-number
returns-in_err-number c = rw c.from_residual-in_err-number.ensures (λ e k small fits is.
    let r = c.args.rest.now in
    let at = c.in_ok-at.at in
    let all : take (length r - (at + 1)) (drop (at + 1) r) ≡ drop (at + 1) r =
    take_all (length r - (at + 1)) (drop (at + 1) r) (omega (arith, length-drop (at + 1) r)) in
    c.in_err-number.ensures k fits
    (all ∙ (number_before r (decimal k) e at (omega (arith, small)) is c.in_ok-at.ensures.1 c.in_ok-at.ensures.2).1))

pub returns-then-editor : goal.returns-then-editor
returns-then-editor c = λ e k small fits is.
    let front = (number_before c.args.rest.now (decimal k) e c.in_ok-at.at (omega (arith, small)) is c.in_ok-at.ensures.1 c.in_ok-at.ensures.2).0 in
    let same : e ≡ c.in_ok-editor.editor =
    decimal_injective e c.in_ok-editor.editor (omega (arith, small)) c.in_ok-editor.ensures.0 (sym front ∙ c.in_ok-editor.ensures.1) in
    absurd (omega (arith, same, small, c.if-editor.true))
