use Rattle.std.proofs.Common.{◌≡◌, ◌∙◌, ◌<◌, ◌++◌, List, ℕ, length, drop, None, sym, subst}
use Rattle.http_serve.proofs.Outboxes.{alone, joined_is, none_long}
use Rattle.http_serve.specs.Outboxes.{behind}
use Rattle.http_serve.specs.declared.outbox.TheConstants.{WAITING}
use Rattle.http_serve.proofs.outbox.Outbox.put.Goals as goal

pub returns-then-len-lt-WAITING : goal.returns-then-len-lt-WAITING
returns-then-len-lt-WAITING c =
    let waits : List ℕ = drop c.self.inside.sent c.self.inside.bytes.items in
    let few : length (waits ++ behind c.self.inside.long) < WAITING = subst (λ v. length v < WAITING) (sym c.self.view_is) c.requires.few in
    let none : c.self.inside.long ≡ None = none_long waits c.self.inside.long c.self.invariant.1 few in
    let all : waits ≡ c.args.self.now = sym (alone waits c.self.inside.long none) ∙ c.self.view_is in
    alone c.joined.result.items c.self.inside.long none
    ∙ joined_is c.joined.result.items c.as_slice.result.now c.self.inside.bytes.items c.as_slice-then-len-lt-WAITING.result.now c.args.message.items c.args.self.now
    c.self.inside.sent c.joined.ensures c.as_slice.ensures.value c.as_slice-then-len-lt-WAITING.ensures.value all
