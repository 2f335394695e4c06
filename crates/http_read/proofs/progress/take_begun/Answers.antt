use Rattle.std.proofs.Common.{subst}
use Rattle.std.proofs.lemmas.Result.{IfOk-weaker}
use Rattle.http_read.specs.declared.opening.Opened.TheVariants.{Head}
use Rattle.http_read.specs.Progress.{ShowsOpened}
use Rattle.http_read.proofs.Resumed.{opened_now, opened_before}
use Rattle.http_read.proofs.progress.take_begun.Goals as goal

pub returns-in-Body-clause-head : goal.returns-in-Body-clause-head
returns-in-Body-clause-head c =
    subst (λ p. ShowsOpened (Head c.in-Body.begun) p c.args.inbox.now c.args.inbox.now) c.in-Body.ensures.value
    (opened_before c.in-Body.begun c.args.inbox.now)

pub returns-in-Head-clause-head : goal.returns-in-Head-clause-head
returns-in-Head-clause-head c =
    IfOk-weaker c.open_head.result _ _
    (λ o shown. subst (λ p. ShowsOpened o p c.args.inbox.now c.open_head.new.inbox) c.in-Head.ensures.value
    (opened_now o c.args.inbox.now c.open_head.new.inbox shown)) c.open_head.ensures.head
