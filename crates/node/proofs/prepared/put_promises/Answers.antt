use Rattle.std.proofs.Common.{◌≡◌, ℕ, sym, subst, arith}
use Rattle.acceptor.specs.Judging.{IsFreeBelow}
use Rattle.durable.specs.Entries.{Entry}
use Rattle.durable.specs.Puts.{Puts}
use Rattle.durable.specs.Slots.{slot_at}
use Rattle.node.proofs.Judging.{promise_of_one, promise_of_more}
use Rattle.node.proofs.prepared.put_promises.Goals as goal

pub put_promise-requires-clause-above : goal.put_promise-requires-clause-above
put_promise-requires-clause-above g c =
    let free = c.requires.above in
    let at : free.0 ≡ c.args.first = omega (arith, free.1.0, free.1.1, c.if-count-eq1.true) in
    subst (λ (i : ℕ). IsFreeBelow (slot_at c.args.store.now.recorded.slots i).promised c.args.ballot) at free.2

pub put_promise_span-requires-clause-long : goal.put_promise_span-requires-clause-long
put_promise_span-requires-clause-long g c = omega (arith, c.requires.span.0, c.if-count-eq1.false)

pub returns-then-count-eq1 : goal.returns-then-count-eq1
returns-then-count-eq1 g c =
    subst (λ (e : Entry). Puts g.D.Disk.stands_for g.D.Disk.failed c.args.store.now c.put_promise.new.self e c.put_promise.result) (sym (promise_of_one c.args.first c.args.count c.args.ballot c.if-count-eq1.true)) c.put_promise.ensures

pub returns : goal.returns
returns g c =
    subst (λ (e : Entry). Puts g.D.Disk.stands_for g.D.Disk.failed c.args.store.now c.put_promise_span.new.self e c.put_promise_span.result)
    (sym (promise_of_more c.args.first c.args.count c.args.ballot c.if-count-eq1.false)) c.put_promise_span.ensures
