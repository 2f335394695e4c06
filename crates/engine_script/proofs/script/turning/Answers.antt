use Rattle.std.proofs.Common.{◌≡◌, ◌∙◌, sym, arith, codes}
use Rattle.std.proofs.lemmas.Fmt.{decimal_injective}
use Rattle.engine_common.proofs.LineLemmas.{behind}
use Rattle.engine_script.proofs.script.turning.Goals as goal

pub returns-then-count-gt-MAX_TURNS : goal.returns-then-count-gt-MAX_TURNS
returns-then-count-gt-MAX_TURNS c k ok is =
    let n = c.in_ok-count.count in
    let same : n ≡ k = decimal_injective n k c.in_ok-count.ensures.0 (omega arith) (sym c.in_ok-count.ensures.1 ∙ behind (codes "turns ") c.args.head.now _ _ c.in_ok-after.ensures is) in
    omega (arith, same, ok, c.if-count-gt-MAX_TURNS.true)
