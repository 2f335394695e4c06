use Rattle.std.proofs.Common.{◌≡◌, arith, codes, decimal}
use Rattle.std.proofs.lemmas.Fmt.{decimal_injective}
use Rattle.engine_common.proofs.LineLemmas.{one_word}
use Rattle.engine_common.proofs.CutLemmas.{lacks-decimal}
use Rattle.engine_script.proofs.script.driving.Goals.{then-number-gt-SERVERS-via-then-number-gt-SERVERS, then-number-gt-SERVERS-via-else-number-gt-SERVERS+then-turns-gt-MAX_TURNS}
use Rattle.engine_script.proofs.script.driving.Goals as goal

pub returns-then-number-gt-SERVERS : goal.returns-then-number-gt-SERVERS
returns-then-number-gt-SERVERS c p k ok few is =
    let q = c.in_ok-node.node in
    let n = c.in_ok-node.turns in
    let words = one_word (codes "drive ") c.args.head.now (decimal q) (decimal n) p (decimal k) (lacks-decimal 32 q (omega arith) (omega (arith, c.in_ok-node.ensures.0.1))) c.in_ok-node.ensures.2 (omega arith) is in
    let node : q ≡ p = decimal_injective q p (omega (arith, c.in_ok-node.ensures.0.1)) (omega arith) words.front in
    let turns : n ≡ k = decimal_injective n k c.in_ok-node.ensures.1 (omega arith) words.back in
    elim c.then-number-gt-SERVERS.branch [
      | then-number-gt-SERVERS-via-then-number-gt-SERVERS w ↦ omega (arith, node, ok.1, c.number.ensures.is, w.if-number-gt-SERVERS.true)
      | then-number-gt-SERVERS-via-else-number-gt-SERVERS+then-turns-gt-MAX_TURNS w ↦ omega (arith, turns, few, w.if-turns-gt-MAX_TURNS.true)
    ]
