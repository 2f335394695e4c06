use Rattle.std.proofs.Common.{◌≡◌, ◌∙◌, ◌+◌, arith, refl, subst, sym}
use Rattle.http_serve.proofs.Running.{many_more}
use Rattle.http_serve.specs.Services.{MaySubmitMany}
use Rattle.server_clients.specs.Answering.{AreMore, IsAtEnd}
use Rattle.server_clients.specs.Served.{offered}
use Rattle.server_clients.proofs.Answering.{counts_of, end_counts, one_more}
use Rattle.server_clients.proofs.seat.Seat.answer.Goals as goal

pub loop-count-init : goal.loop-count-init
loop-count-init g c = record { more = (refl, refl); counted = omega arith; few = omega arith; taken = refl }

pub loop-count-preserved : goal.loop-count-preserved
loop-count-preserved g c =
    let one = rw c.if-branch.true at c.in_ok-answer_next.ensures.next in
    let before = c.loop-count.invariant in
    record {
      more = one_more offered c.args.times c.args.now c.loop-count.count c.args.served.now c.loop-count.served c.answer_next.new.served
          c.args.self.now c.loop-count.self c.answer_next.new.self before.more one;
      counted = omega (arith, one.answered.counted, before.counted);
      few = omega (arith, one.may.few, before.counted);
      taken = many_more offered c.loop-count.count c.args.served.now c.loop-count.served c.answer_next.new.served before.taken c.answer_next.ensures.taken;
    }

pub loop-count-smaller : goal.loop-count-smaller
loop-count-smaller g c =
    let one = rw c.if-branch.true at c.in_ok-answer_next.ensures.next in
    omega (arith, one.answered.counted, one.may.few)

pub overflow_add-count : goal.overflow_add-count
overflow_add-count g c = omega (arith, c.loop-count.invariant.few)

pub returns-in_err-answer_next-clause-taken : goal.returns-in_err-answer_next-clause-taken
returns-in_err-answer_next-clause-taken g c = (
  c.loop-count.count + 1,
  omega (arith, c.in_err-answer_next.ensures.few, c.loop-count.invariant.counted),
  many_more offered c.loop-count.count c.args.served.now c.loop-count.served c.answer_next.new.served c.loop-count.invariant.taken c.answer_next.ensures.taken,
)

pub returns : goal.returns
returns g c =
    let rest = rw c.if-branch.false at c.in_ok-answer_next.ensures.next in
    let before = c.loop-count.invariant in
    let same : c.answer_next.new.served ≡ c.loop-count.served = rest.0 in
    let as_many = end_counts offered c.args.times c.args.now c.loop-count.served c.loop-count.self c.answer_next.new.self rest.1 in
    record {
      turn = (
        c.loop-count.count,
        c.loop-count.self,
        subst (λ s. AreMore offered c.args.times c.args.now c.loop-count.count c.args.served.now s c.args.self.now c.loop-count.self) (sym same) before.more,
        subst (λ s. IsAtEnd offered c.args.times c.args.now s c.loop-count.self c.answer_next.new.self) (sym same) rest.1,
      );
      counts = counts_of c.loop-count.count c.args.self.now c.answer_next.new.self (as_many ∙ before.counted);
      taken = (
        c.loop-count.count,
        before.few,
        subst (λ s. MaySubmitMany offered c.loop-count.count c.args.served.now s) (sym same) before.taken,
      );
    }
