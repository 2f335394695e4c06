use Rattle.std.proofs.Common.{List, [], ◌∷◌, ◌++◌, length, ap, ◌∙◌, arith}
use Rattle.node.specs.declared.queue.Waiting.{Waiting}
use Rattle.node.specs.Nodes.{Value}
use Rattle.node.proofs.Choosing.{as_many_wait, untried_first, untried_more, oldest_many, oldest_all}
use Rattle.node.proofs.node.Node.untried.Goals as goal

-- the oldest one is taken
pub loop-place-init : goal.loop-place-init
loop-place-init g c =
    let one = c.in_ok-push.ensures.items ∙ ap (λ (l : List Value). l ++ c.in_ok-try_clone.field-0 ∷ []) c.new-values.ensures.items ∙ ap (λ (v : Value). v ∷ []) c.in_ok-try_clone.ensures in
    record {
      some = let long = ap (λ (l : List Value). length l) one in omega (arith, long);
      few = let long = ap (λ (l : List Value). length l) one in omega (arith, long, c.requires.some);
      untried = λ s stands is. untried_first s c.args.oldest c.in-Some.first.now _ (c.in-Some.ensures s.pending stands.parts.pending) is one;
    }

pub loop-place-preserved : goal.loop-place-preserved
loop-place-preserved g c =
    let l = c.loop-place in
    record {
      some = omega (arith, l.invariant.some, c.in_ok-push_untried.ensures.few.0);
      few = omega (arith, l.invariant.few, c.in_ok-push_untried.ensures.few.1, c.if-len-most.false);
      untried = λ s stands is.
          untried_more s l.place c.in-Some-value_at.value.now l.values.items _ (c.in-Some-value_at.ensures s.pending stands.parts.pending) (l.invariant.untried s stands is)
          (c.in_ok-push_untried.ensures.pushes s.attempts stands.parts.attempts);
    }

-- the place is one of the queue's
pub returns-in_default-clause-oldest : goal.returns-in_default-clause-oldest
returns-in_default-clause-oldest g c = absurd (omega (arith, c.requires.within, c.in_default.ensures))

pub returns-in_default-clause-few : goal.returns-in_default-clause-few
returns-in_default-clause-few g c = absurd (omega (arith, c.requires.within, c.in_default.ensures))

pub returns-in_default-value_at-clause-oldest : goal.returns-in_default-value_at-clause-oldest
returns-in_default-value_at-clause-oldest g c = absurd (omega (arith, c.in_default-value_at.ensures, c.loop-place-test.true, c.len-place-end.ensures))

-- as many as were asked for
pub returns-then-len-most-clause-oldest : goal.returns-then-len-most-clause-oldest
returns-then-len-most-clause-oldest g c s first stands is_first is =
    let l = c.loop-place in
    oldest_many s first l.place c.args.most l.values.items stands.tidy is_first (l.invariant.untried s stands is) (omega (arith, c.if-len-most.true, c.len.ensures))

-- all of them
pub returns-clause-oldest : goal.returns-clause-oldest
returns-clause-oldest g c s first stands is_first is =
    let l = c.loop-place in
    let ws : List Waiting = c.args.self.now.queue.items.items in
    let all = as_many_wait ws s.pending stands.parts.pending in
    oldest_all s l.place c.args.most l.values.items (omega (arith, all, c.len-place-end.ensures, c.loop-place-test.false)) l.invariant.few (l.invariant.untried s stands is)
