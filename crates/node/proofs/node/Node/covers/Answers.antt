use Rattle.std.proofs.Common.{◌≡◌, ◌+◌, ◌-◌, refl, sym, ap, ◌∙◌, arith}
use Rattle.node.specs.Tellings.{covered, told_size}
use Rattle.node.proofs.ToldAgain.{begun_covered, more_covered, all_covered}
use Rattle.node.proofs.node.Node.covers.Goals as goal

pub loop-past-init : goal.loop-past-init
loop-past-init g c = record { left = 64; counted = refl; so_far = λ s stands. begun_covered s c.args.first }

-- no room for the next
pub returns-in_default-clause-covered : goal.returns-in_default-clause-covered
returns-in_default-clause-covered g c = λ s stands.
    let l = c.loop-past in
    all_covered s c.args.first _ l.room l.past (63 - l.past) l.invariant.left c.told_size.result
    (omega (arith, l.invariant.counted)) (l.invariant.so_far s stands)
    (c.told_size.ensures s stands)
    (c.in_default.ensures)

pub loop-past-preserved : goal.loop-past-preserved
loop-past-preserved g c =
    let l = c.loop-past in
    record {
      left = 63 - l.past;
      counted = omega arith;
      so_far = λ s stands.
          let fits = c.in-Some.ensures in
          more_covered s c.args.first _ l.room l.past (63 - l.past) l.invariant.left c.told_size.result
          (omega (arith, l.invariant.counted)) (l.invariant.so_far s stands)
          (c.told_size.ensures s stands)
          fits.0
          ∙ ap (λ left. l.past + 1 + covered left s (63 - l.past) (c.args.first + (l.past + 1))) (sym fits.1);
    }

-- all of them
pub returns-clause-covered : goal.returns-clause-covered
returns-clause-covered g c = λ s stands.
    let l = c.loop-past in
    let none : l.invariant.left ≡ 0 = omega (arith, l.invariant.counted) in
    let there = l.invariant.so_far s stands ∙ ap (λ k. l.past + covered l.room s k (c.args.first + l.past)) none in
    omega (arith, there)
