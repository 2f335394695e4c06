use Rattle.std.proofs.Common.{◌≡◌, true, false, List, sym, ◌∙◌, arith}
use Rattle.node.specs.declared.queue.Waiting.{Waiting}
use Rattle.node.proofs.Choosing.{as_many_wait, none_taken, tried_more, none_untried}
use Rattle.node.proofs.Queueing.{is_true, true_is}
use Rattle.node.proofs.node.Node.next_untried.Goals as goal

off : true ≡ false → ⊥
off e = cc

pub loop-place-init : goal.loop-place-init
loop-place-init g c s stands = none_taken s s.pending

pub loop-place-preserved : goal.loop-place-preserved
loop-place-preserved g c s stands =
    let tried = (c.tries.ensures s.attempts stands.parts.attempts).0 (is_true c.tries.result c.if-not-tries.false) in
    tried_more s c.loop-place.place c.in-Some.value.now (c.in-Some.ensures s.pending stands.parts.pending) (c.loop-place.invariant s stands) (tried.0, tried.1, tried.2, tried.3 ∙ c.as_bytes.ensures)

pub returns-in_default-clause-oldest : goal.returns-in_default-clause-oldest
returns-in_default-clause-oldest g c s stands = absurd (omega (arith, c.in_default.ensures, c.loop-place-test.true, c.len-place-end.ensures))

pub returns-then-not-tries-clause-oldest : goal.returns-then-not-tries-clause-oldest
returns-then-not-tries-clause-oldest g c s stands = record {
  value = c.in-Some.value.now;
  there = c.in-Some.ensures s.pending stands.parts.pending;
  untried = λ tried. off (sym (true_is c.tries.result ((c.tries.ensures s.attempts stands.parts.attempts).1 (tried.0, tried.1, tried.2, tried.3 ∙ sym c.as_bytes.ensures))) ∙ c.if-not-tries.true);
  before = c.loop-place.invariant s stands;
}

pub returns-clause-oldest : goal.returns-clause-oldest
returns-clause-oldest g c s stands =
    let ws : List Waiting = c.args.self.now.queue.items.items in
    let all = as_many_wait ws s.pending stands.parts.pending in
    none_untried s c.loop-place.place (omega (arith, all, c.len-place-end.ensures, c.loop-place-test.false)) (c.loop-place.invariant s stands)
