use Rattle.std.proofs.Common.{◌∙◌, ap, sym, subst, refl, inl}
use Rattle.httparse.specs.Spans.{IsRequestAt}
use Rattle.http_read.specs.declared.heads.Found.TheVariants.{At}
use Rattle.http_read.specs.declared.progress.Begun.{Begun}
use Rattle.http_read.specs.Heads.{window, refused, ReadsHead}
use Rattle.http_read.specs.Looks.{Finds}
use Rattle.http_read.proofs.Resumed.{head_opened}
use Rattle.http_read.proofs.opening.open_head.Goals as goal

pub returns-in-Refused-clause-head : goal.returns-in-Refused-clause-head
returns-in-Refused-clause-head c =
    let finds = rw c.in-Refused.is at c.in_ok-found.ensures in
    inl (refl, subst (λ held. ReadsHead held (refused c.in-Refused.status)) c.held-2.ensures finds)

pub returns-in_ok-body-in-Asks-clause-head : goal.returns-in_ok-body-in-Asks-clause-head
returns-in_ok-body-in-Asks-clause-head c =
    let same = c.first_bytes-bytes.ensures.window ∙ ap window c.held.ensures in
    let spans = c.find_head.new.spans.items in
    let finds = subst (λ held. Finds held spans (At c.in-At.found)) c.held-2.ensures (rw c.in-At.is at c.in_ok-found.ensures) in
    let judges = rw c.deref-2.ensures.value at (rw c.in-Asks.is at c.in_ok-passed.ensures) in
    let named = rw c.deref.ensures.value at c.asks_for_head-of_head.ensures in
    let begun : Begun = record {
      passed = c.in-Asks.passed;
      path = c.in-Asks.path;
      of_head = c.asks_for_head-of_head.result;
      body = c.in_ok-body-in-Asks.body;
    } in
    head_opened c.args.inbox.now c.pass.new.self spans c.in-At.found begun finds c.pass.ensures
    (λ head at. judges head (subst (λ b. IsRequestAt b spans c.in-At.found head) (sym same) at))
    (λ head at. named head (subst (λ b. IsRequestAt b spans c.in-At.found head) (sym same) at))
    c.in_ok-body-in-Asks.ensures.used c.in_ok-body-in-Asks.ensures.small
