use Rattle.std.proofs.Common.{◌≡◌, Some, true, false, sym, ◌∙◌, rules}
use Rattle.proposer.specs.declared.open_attempt.OpenAttempt.{OpenAttempt}
use Rattle.proposer.proofs.Trying.{tried, not_here, still_kept, found_here, none_left, all_to_come, is_true, true_is}
use Rattle.proposer.proofs.proposer.Proposer.tries.Goals as goal

pub loop-attempt-init : goal.loop-attempt-init
loop-attempt-init c = record { left = all_to_come _ _ c.args.value.now (cc) }

off : true ≡ false → ⊥
off e = cc

pub loop-attempt-preserved : goal.loop-attempt-preserved
loop-attempt-preserved c =
    let l = c.loop-attempt in
    let steps = c.in-Some.ensures.steps in
    let none : ¬ ((a : OpenAttempt) × (c.in-Some.attempt.now ≡ Some a) × (a.own ≡ c.args.value.now)) =
    λ t. off (sym (true_is c.has_own.result (c.has_own.ensures.1 t)) ∙ c.if-has_own.false) in
    record {
      left = (
        λ t. l.invariant.left.0 (still_kept c.in-Some.attempt.now _ l.attempt-iterator c.args.value.now steps t),
        λ t. not_here c.in-Some.attempt.now _ l.attempt-iterator c.args.value.now steps none (l.invariant.left.1 t),
      );
    }

pub returns-then-has_own : goal.returns-then-has_own
returns-then-has_own c attempts are =
    let l = c.loop-attempt in
    let found = found_here c.in-Some.attempt.now _ l.attempt-iterator c.args.value.now c.in-Some.ensures.steps (c.has_own.ensures.0 (is_true c.has_own.result c.if-has_own.true)) in
    (λ e. (tried c.args.self.now attempts c.args.value.now c.values-attempt-items.ensures.ordered are).0 (l.invariant.left.0 found), λ t. search rules)

pub returns : goal.returns
returns c attempts are =
    let l = c.loop-attempt in (
      λ e. absurd (search (rules, e)),
      λ t. absurd (none_left l.attempt-iterator c.args.value.now c.in-None.ensures.steps.0 (l.invariant.left.1 ((tried c.args.self.now attempts c.args.value.now c.values-attempt-items.ensures.ordered are).1 t))),
    )
