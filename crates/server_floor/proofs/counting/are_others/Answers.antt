use Rattle.std.proofs.Common.{arith, sym, ◌∙◌}
use Rattle.std.proofs.lemmas.Bool.{eqb-true, false≢true}
use Rattle.server_floor.specs.Told.{AreOthers}
use Rattle.server_floor.proofs.Telling.{stands}
use Rattle.server_floor.proofs.counting.are_others.Goals.{then-number-size-via-then-number-size, then-number-size-via-else-number-size+then-eq}
use Rattle.server_floor.proofs.counting.are_others.Goals as goal

pub returns-then-number-size : goal.returns-then-number-size
returns-then-number-size c = (
  λ no_more. absurd (false≢true no_more),
  λ (others : AreOthers c.args.cluster c.args.me c.args.told.now).
      let one = others c.one-item.result (stands c.args.told.now c.loop-one.one-index c.one-item.result c.loop-one-test.true c.one-item.is) in
      elim c.then-number-size.branch [
        | then-number-size-via-then-number-size w ↦ absurd (omega (arith, one.0.1, w.if-number-size.true, c.number.ensures.is, c.size.ensures.is))
        | then-number-size-via-else-number-size+then-eq w ↦ absurd (one.1 (eqb-true _ _ (sym w.eq.ensures ∙ w.if-eq.true)))
      ],
)
