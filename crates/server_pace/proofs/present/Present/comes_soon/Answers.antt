use Rattle.std.proofs.Common.{rules, ◌≡◌, ◌+◌, ◌-◌, suc, true, false, ap, sym, ◌∙◌, arith}
use Rattle.std.specs.Prelude.{nat_le, if◌then◌else◌}
use Rattle.server_pace.specs.Presence.{before, comes_before}
use Rattle.server_pace.proofs.present.Present.comes_soon.Goals as goal
use Rattle.server_pace.proofs.present.Present.comes_soon.Goals.{then-comes_before, else-comes_before}

-- one more comes before it, or not
pub loop-number-preserved : goal.loop-number-preserved
loop-number-preserved c =
    let at = c.args.self.now.at in
    let l = c.loop-number in
    let number : suc (l.number - 1) ≡ l.number + 1 - 1 = omega (arith, l.auto.number) in
    let here : suc (l.number - 1) ≡ l.number = omega (arith, l.auto.number) in
    let so_far = before at c.args.times c.args.now c.args.to c.args.me (l.number - 1) in
    let is : comes_before at c.args.times c.args.now c.args.to c.args.me (suc (l.number - 1)) ≡ c.comes_before.result
    = ap (λ n. comes_before at c.args.times c.args.now c.args.to c.args.me n) here ∙ sym c.comes_before.ensures in
    let on : before at c.args.times c.args.now c.args.to c.args.me (l.number + 1 - 1) ≡ (if c.comes_before.result then suc so_far else so_far)
    = ap (λ n. before at c.args.times c.args.now c.args.to c.args.me n) (sym number) ∙ ap (λ b. if b then suc so_far else so_far) is in
    elim c.if-comes_before.branch [
      | then-comes_before w ↦
          let then_on = on ∙ ap (λ b. if b then suc so_far else so_far) w.if-comes_before.true in
          (omega (arith, then_on, l.invariant.0, w.before-is), omega (arith, l.invariant.1, w.before-is))
      | else-comes_before w ↦
          let else_on = on ∙ ap (λ b. if b then suc so_far else so_far) w.if-comes_before.false in
          (omega (arith, else_on, l.invariant.0, w.before-is), omega (arith, l.invariant.1, w.before-is))
    ]

pub returns : goal.returns
returns c =
    let at = c.args.self.now.at in
    let all : c.loop-number.number - 1 ≡ 9 = omega (arith, c.loop-number-test.false, c.loop-number.auto.number-end (omega arith)) in
    let is = c.loop-number.invariant.0 ∙ ap (λ n. before at c.args.times c.args.now c.args.to c.args.me n) all in
    search (rules, ap (λ n. nat_le n c.args.repeats) is)
