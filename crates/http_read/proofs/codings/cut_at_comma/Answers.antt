use Rattle.std.proofs.Common.{◌≡◌, ◌+◌, ◌-◌, length, take, drop, arith, ap, ◌∙◌, ◌∷◌, sym, length-drop}
use Rattle.std.proofs.lemmas.List.{take_all}
use Rattle.http_read.specs.Checks.{comma_parts}
use Rattle.http_read.proofs.Commas.{cut_here, cut_nowhere}
use Rattle.http_read.proofs.codings.cut_at_comma.Goals as goal

pub returns-then-value-i-eq44 : goal.returns-then-value-i-eq44
returns-then-value-i-eq44 c =
    let v = c.args.value.now in
    let i = c.loop-i.i in
    let rest : take (length v - (i + 1)) (drop (i + 1) v) ≡ drop (i + 1) v =
    take_all (length v - (i + 1)) (drop (i + 1) v) (omega (arith, length-drop (i + 1) v)) in (
      cut_here v i c.loop-i-test.true c.if-value-i-eq44.true c.loop-i.invariant ∙ ap (λ t. take i v ∷ comma_parts t) (sym rest),
      omega (arith, c.loop-i-test.true, ap length rest, length-drop (i + 1) v),
    )

pub returns : goal.returns
returns c = cut_nowhere c.args.value.now (λ k below. c.loop-i.invariant k (omega (arith, below, c.loop-i-test.false)))
