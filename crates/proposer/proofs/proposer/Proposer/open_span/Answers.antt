use Rattle.std.proofs.Common.{◌≡◌, ◌+◌, suc, ℕ, Some, List, length, refl, sym, ap, ◌∙◌, arith, rules}
use Rattle.site_ids.specs.Lists.{put_at}
use Rattle.proposer.specs.Attempts.{opened, opened_span}
use Rattle.proposer.proofs.proposer.Proposer.open_span.Goals as goal

pub loop-own-init : goal.loop-own-init
loop-own-init c =
    let items = c.into_iter-own-iterator.ensures.into_iter_gives.0 in
    let none : c.args.first + 0 ≡ c.args.first = omega arith in
    record {
      only = refl;
      counted = let lengths = ap (λ (xs : List (List ℕ)). length xs) items in omega (arith, lengths);
      room = c.requires.room;
      opened = λ attempts are. (attempts, are, (λ i. opened_span attempts (none i) c.args.ballot (items i)));
    }

pub loop-own-preserved : goal.loop-own-preserved
loop-own-preserved c =
    let l = c.loop-own in
    let items = c.in-Some.ensures.steps.0 in
    let counted = l.invariant.counted in
    let longer = ap (λ (xs : List (List ℕ)). length xs) items in
    let next : c.args.first + (l.past + 1) ≡ suc (c.args.first + l.past) = omega arith in
    record {
      only = search rules;
      counted = omega (arith, counted, longer);
      room = λ at within. c.open.ensures.kept at (l.invariant.room at within);
      opened = λ attempts are.
          let mid = l.invariant.opened attempts are in (
            put_at mid.0 c.in-Some-plus.at (Some (opened c.args.ballot c.in-Some.own)),
            c.open.ensures.opened.attempts mid.0 mid.1,
            (λ i. opened_span (put_at mid.0 (c.in-Some-plus.ensures.0 i) (Some (opened c.args.ballot c.in-Some.own))) (next i) c.args.ballot c.next.new.self.rest.items)
                ∙ ap (λ (xs : List (List ℕ)). opened_span mid.0 (c.args.first + l.past) c.args.ballot xs) (sym items) ∙ mid.2,
          );
    }
