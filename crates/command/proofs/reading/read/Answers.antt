use Rattle.std.proofs.Common.{◌≡◌, Option, arith, ap, ◌∙◌, subst, sym, drop}
use Rattle.std.proofs.lemmas.Result.{err_from_is_err_and}
use Rattle.std.specs.Option.{ok_or}
use Rattle.std.specs.Str.{IsUtf8}
use Rattle.command.specs.Action.{Order}
use Rattle.command.specs.Reading.{with_ticket, ticket_of, text_reading}
use Rattle.command.specs.Rows.{Row, row_of}
use Rattle.command.specs.declared.fault.CommandFault.TheVariants.{Form}
use Rattle.command.proofs.ReadingLemmas.{value_of_text, value_of_bytes, row_of_text, tail_of}
use Rattle.command.proofs.reading.read.Goals as goal

pub returns-in_default-clause-err : goal.returns-in_default-clause-err
returns-in_default-clause-err c other =
    let v = c.args.value.now in
    value_of_bytes v (omega arith) (omega arith) (subst (λ t. ¬ IsUtf8 t) (tail_of v) c.in_default.ensures.cases.0)

pub returns-in_err-action-clause-err : goal.returns-in_err-action-clause-err
returns-in_err-action-clause-err c =
    let v = c.args.value.now in
    let text = subst IsUtf8 (tail_of v) c.in-Ok.ensures.cases.1 in
    let is : c.in-Ok.text.now ≡ drop 12 v = c.in-Ok.ensures.cases.0 ∙ tail_of v in
    let p = err_from_is_err_and c.from_residual.result c.from_residual.ensures.1 in
    rw (p.1, p.2) (λ other. value_of_text v (omega arith) (omega arith) text
    ∙ ap (λ t. with_ticket (ticket_of v) (text_reading (row_of t))) (sym is) ∙ ap (with_ticket (ticket_of v)) (c.in_err-action.ensures.err other))

pub returns-clause-ok : goal.returns-clause-ok
returns-clause-ok c =
    let v = c.args.value.now in
    let text = subst IsUtf8 (tail_of v) c.in-Ok.ensures.cases.1 in
    let is : c.in-Ok.text.now ≡ drop 12 v = c.in-Ok.ensures.cases.0 ∙ tail_of v in
    let a = c.in_ok-action.ensures.ok in
    let order : Order = record { ticket = ticket_of v; action = a.0 } in (
      order,
      value_of_text v (omega arith) (omega arith) text
          ∙ ap (λ t. with_ticket (ticket_of v) (text_reading (row_of t))) (sym is) ∙ ap (with_ticket (ticket_of v)) a.1,
      (c.ticket.ensures, a.2),
    )

pub returns-in_err-action-clause-memory : goal.returns-in_err-action-clause-memory
returns-in_err-action-clause-memory c =
    let v = c.args.value.now in
    let text = subst IsUtf8 (tail_of v) c.in-Ok.ensures.cases.1 in
    let is : c.in-Ok.text.now ≡ drop 12 v = c.in-Ok.ensures.cases.0 ∙ tail_of v in
    let p = err_from_is_err_and c.from_residual.result c.from_residual.ensures.1 in
    rw (p.1, p.2) (λ wanted. let at = c.in_err-action.ensures.memory wanted in (at.0, row_of_text v (omega arith) (omega arith) text ∙ ap (λ (o : Option Row). ok_or o Form) (ap row_of (sym is) ∙ at.1), at.2))
