use Rattle.std.proofs.Common.{suc}
use Rattle.http_serve.proofs.Answering.{kept_as, few_answered, asked_finds, refusal_finds, not_kept}
use Rattle.http_serve.proofs.messages.message_for.Goals as goal

pub returns-in_ok-respond-in-Request-clause-response : goal.returns-in_ok-respond-in-Request-clause-response
returns-in_ok-respond-in-Request-clause-response g c =
    let a = c.in_ok-respond-in-Request.ensures.answered in
    asked_finds _ (suc c.args.answered) _ _ _ _ a.0 c.in_ok-respond-in-Request.field-0 c.in-Request.is
    (kept_as c.args.answered c.in-Request.asked.keep _ a.0 _ c.may_keep-keep.ensures a.1) a.2

pub returns-in_ok-respond-in-Request-clause-few : goal.returns-in_ok-respond-in-Request-clause-few
returns-in_ok-respond-in-Request-clause-few g c =
    let a = c.in_ok-respond-in-Request.ensures.answered in
    few_answered c.args.answered c.in-Request.asked.keep _ a.0 _ c.may_keep-keep.ensures a.1

pub returns-in_ok-refused-in-Refused-clause-response : goal.returns-in_ok-refused-in-Refused-clause-response
returns-in_ok-refused-in-Refused-clause-response g c =
    refusal_finds _ (suc c.args.answered) _ _ c.in-Refused.status c.in-Refused.head c.in_ok-refused-in-Refused.field-0 c.in-Refused.is c.in_ok-refused-in-Refused.ensures

pub returns-in_ok-refused-in-Refused-clause-few : goal.returns-in_ok-refused-in-Refused-clause-few
returns-in_ok-refused-in-Refused-clause-few g c =
    not_kept c.in_ok-refused-in-Refused.field-0 c.in-Refused.head c.in-Refused.status c.in_ok-refused-in-Refused.ensures
