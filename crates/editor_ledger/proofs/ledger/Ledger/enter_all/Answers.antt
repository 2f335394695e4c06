use Rattle.std.proofs.Common.{◌++◌, length, All, codes, refl, sym, ap, subst, ◌∙◌, arith, rules}
use Rattle.std.proofs.lemmas.List.Elements.{All-head, All-tail}
use Rattle.std.specs.List.{flat_map, fold}
use Rattle.editor_ledger.specs.Entries.{FitsItem, item_text, entered}
use Rattle.editor_ledger.proofs.Readings.{none_left, one_left, some_text, is_shorter, only_fails}
use Rattle.editor_ledger.proofs.ledger.Ledger.enter_all.Goals as goal

pub loop-init : goal.loop-init
loop-init c = (c.utf8.entries, λ items more fits is. record { left = items; fits = fits; text = is; whole = refl; short = omega arith })

pub returns-then-is_some : goal.returns-then-is_some
returns-then-is_some c items more fits is =
    let l = c.loop.invariant.1 items more fits is in
    let none = none_left l.left more c.loop.rest.now c.after.result l.text c.after.ensures (sym c.is_some.ensures ∙ c.if-is_some.true) in
    ap (fold entered c.loop.self) (sym none) ∙ l.whole

pub returns-in-Err : goal.returns-in-Err
returns-in-Err c items more fits is =
    let l = c.loop.invariant.1 items more fits is in
    let one = one_left l.left more c.loop.rest.now c.after.result l.text c.after.ensures (sym c.is_some.ensures ∙ c.if-is_some.false) in
    absurd (c.in-Err.ensures one.0 _ (All-head FitsItem one.0 one.1 (subst (All FitsItem) one.2 l.fits)) one.3)

pub returns-in_err-enter-in-Ok : goal.returns-in_err-enter-in-Ok
returns-in_err-enter-in-Ok c items more fits is =
    let full = c.in_err-enter-in-Ok.ensures.err in
    only_fails _ c.from_residual.result c.from_residual.ensures.1 (λ e why. cc)

pub loop-preserved : goal.loop-preserved
loop-preserved c = (
  search rules,
  λ items more fits is.
      let l = c.loop.invariant.1 items more fits is in
      let one = one_left l.left more c.loop.rest.now c.after.result l.text c.after.ensures (sym c.is_some.ensures ∙ c.if-is_some.false) in
      let fit = subst (All FitsItem) one.2 l.fits in
      let read = c.in-Ok.ensures one.0 _ (All-head FitsItem one.0 one.1 fit) one.3 in
      let less = is_shorter one.0 (flat_map item_text one.1 ++ (codes "end " ++ more)) in
      let long = ap length one.3 in
      let next = ap length read.1 in
      record {
        left = one.1;
        fits = All-tail FitsItem one.0 one.1 fit;
        text = read.1;
        whole =
            ap (λ b. fold entered b one.1) (c.in_ok-enter-in-Ok.ensures.ok ∙ ap (entered c.loop.self) read.0)
            ∙ ap (fold entered c.loop.self) (sym one.2)
            ∙ l.whole;
        short = omega (arith, l.short, less, long, next);
      },
)

pub returns : goal.returns
returns c items more fits is =
    let l = c.loop.invariant.1 items more fits is in
    let some = some_text l.left more c.loop.rest.now l.text in
    absurd (omega (arith, l.short, some, c.loop-test.false))
