use Rattle.std.proofs.Common.{◌≡◌, ◌∙◌, sym, subst, arith, true, is_ok, decimal}
use Rattle.std.proofs.lemmas.Bool.{false≢true}
use Rattle.std.proofs.lemmas.Result.{OkIff-decides}
use Rattle.std.proofs.lemmas.Fmt.{decimal_injective}
use Rattle.site_ids.specs.Ids.{IsInstance}
use Rattle.engine_common.proofs.LineLemmas.{one_word, fitted}
use Rattle.engine_common.proofs.CutLemmas.{lacks-decimal}
use Rattle.engine_schedule.proofs.schedule.instance_at_node.Goals as goal

pub returns-in_err-ok : goal.returns-in_err-ok
returns-in_err-ok c = rw c.from_residual-in_err-ok.ensures (λ p n ok small is.
    let m = c.in_ok-node.number in
    let later = (one_word c.args.front.now c.args.head.now (decimal c.in_ok-node.node) (decimal m) p (decimal n) (lacks-decimal 32 c.in_ok-node.node (omega arith) (omega (arith, c.in_ok-node.ensures.0))) c.in_ok-node.ensures.2 (omega arith) is).back in
    let same : m ≡ n = decimal_injective m n c.in_ok-node.ensures.1 (omega (arith, small.1)) later in
    let fits : is_ok c.try_from.result ≡ true = (OkIff-decides c.try_from.result _ m c.try_from.ensures).1 (omega (arith, same, small.1)) in
    false≢true (c.in_err-ok.ensures.variant ∙ fits))

pub returns-in_err-new : goal.returns-in_err-new
returns-in_err-new c = rw c.from_residual-in_err-new.ensures (λ p n ok small is.
    let m = c.in_ok-node.number in
    let later = (one_word c.args.front.now c.args.head.now (decimal c.in_ok-node.node) (decimal m) p (decimal n) (lacks-decimal 32 c.in_ok-node.node (omega arith) (omega (arith, c.in_ok-node.ensures.0))) c.in_ok-node.ensures.2 (omega arith) is).back in
    let same : m ≡ n = decimal_injective m n c.in_ok-node.ensures.1 (omega (arith, small.1)) later in
    let fits : c.in_ok-ok.field-0 ≡ m = fitted c.try_from.result _ m c.in_ok-ok.field-0 c.try_from.ensures c.in_ok-ok.ensures.value in
    c.in_err-new.ensures (subst IsInstance (sym (fits ∙ same)) small))
