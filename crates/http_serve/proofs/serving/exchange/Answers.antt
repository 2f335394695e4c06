use Rattle.std.proofs.Common.{ap, suc, refl, Err, inl, inr}
use Rattle.std.proofs.KnownBytes.{Keeps-refl}
use Rattle.std.proofs.lemmas.Result.{err_from_is_err_and}
use Rattle.http_read.specs.Counted.{inside}
use Rattle.http_read.specs.Input.{input_of}
use Rattle.http_serve.proofs.Running.{answered, stays_where, not_over, cut_off, sent_no_more, given_up}
use Rattle.http_serve.proofs.serving.exchange.Goals as goal

pub returns-in_err-message-clause-answered : goal.returns-in_err-message-clause-answered
returns-in_err-message-clause-answered g c =
    let p = err_from_is_err_and c.from_residual.result c.from_residual.ensures.1 in
    let given = c.in_err-message.ensures in
    rw (p.1, p.2) (given_up g.S.Service.offered (suc c.args.answered) c.args.service.now c.next_message.new.service _
    (input_of c.next_message.new.inbox (g.R.Read.remaining (inside c.next_message.new.reader))) (g.R.Read.remaining (inside c.next_message.new.reader)) _ c.in_err-message.field-0.0
    (λ e. given.unread (ap Err e)) (λ e. given.ended (ap Err e))
    (λ e. given.unasked (inl (ap Err e))) (λ e. given.unasked (inr (ap Err e)))
    (λ e. given.refused (ap Err e)) (λ e. given.unwritten (ap Err e)))

pub returns-in-Ok-clause-answered : goal.returns-in-Ok-clause-answered
returns-in-Ok-clause-answered g c =
    let responds = rw c.in-Some.is at c.in_ok-message.ensures.response in
    answered g.S.Service.offered (suc c.args.answered) _ _ _ _ (g.R.Read.remaining (inside c.next_message.new.reader)) _ _ c.in-Some.message.stays _ _ responds
    (rw c.as_slice.ensures.value at c.in-Ok.ensures.ok.whole) c.behind.ensures

pub returns-in-Ok-clause-few : goal.returns-in-Ok-clause-few
returns-in-Ok-clause-few g c = λ so.
    let few = rw c.in-Some.is at c.in_ok-message.ensures.few in
    few (stays_where c.in-Some.message.stays _ c.behind.ensures so)

pub returns-in-Ok-clause-over : goal.returns-in-Ok-clause-over
returns-in-Ok-clause-over g c = λ so. not_over c.in-Some.message.stays _ c.behind.ensures so

pub returns-in-Some-clause-answered : goal.returns-in-Some-clause-answered
returns-in-Some-clause-answered g c =
    let responds = rw c.in-Some.is at c.in_ok-message.ensures.response in
    cut_off g.S.Service.offered (suc c.args.answered) _ _ _ _ (g.R.Read.remaining (inside c.next_message.new.reader)) _ _ c.in-Some.message.stays _ responds
    (rw c.as_slice.ensures.value at c.in-Err.ensures.err.part)

pub returns-clause-answered : goal.returns-clause-answered
returns-clause-answered g c =
    let over = rw c.in-None.is at c.in_ok-message.ensures.response in
    sent_no_more g.S.Service.offered (suc c.args.answered) _ _ _
    (input_of c.next_message.new.inbox (g.R.Read.remaining (inside c.next_message.new.reader))) (g.R.Read.remaining (inside c.next_message.new.reader)) _ over

pub returns-clause-over : goal.returns-clause-over
returns-clause-over g c = λ _. (c.in_ok-message.ensures.over c.in-None.is, record { kept = Keeps-refl _; sound = refl })
