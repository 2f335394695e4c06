use Rattle.std.proofs.Common.{◌≡◌, ◌∙◌, arith, true, is_ok, codes, decimal}
use Rattle.std.proofs.lemmas.Bool.{false≢true}
use Rattle.std.proofs.lemmas.Result.{OkIff-decides}
use Rattle.std.proofs.lemmas.Fmt.{decimal_injective}
use Rattle.engine_common.proofs.LineLemmas.{one_word}
use Rattle.engine_common.proofs.CutLemmas.{lacks-decimal}
use Rattle.engine_schedule.proofs.schedule.crashing.Goals as goal

pub returns-in_err-ok : goal.returns-in_err-ok
returns-in_err-ok c = rw c.from_residual-in_err-ok.ensures (λ p n ok small is.
    let m = c.in_ok-node.choice in
    let later = (one_word (codes "crash ") c.args.head.now (decimal c.in_ok-node.node) (decimal m) p (decimal n) (lacks-decimal 32 c.in_ok-node.node (omega arith) (omega (arith, c.in_ok-node.ensures.0))) c.in_ok-node.ensures.2 (omega arith) is).back in
    let same : m ≡ n = decimal_injective m n c.in_ok-node.ensures.1 (omega arith) later in
    let fits : is_ok c.try_from.result ≡ true = (OkIff-decides c.try_from.result _ m c.try_from.ensures).1 (omega arith) in
    false≢true (c.in_err-ok.ensures.variant ∙ fits))
