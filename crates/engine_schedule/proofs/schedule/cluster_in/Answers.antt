use Rattle.std.proofs.Common.{◌≡◌, ◌≢◌, ◌<◌, ◌^◌, ◌++◌, ◌∙◌, ℕ, List, sym, ap, arith, true, is_ok, codes, decimal, Option, Some, None, MatchOption}
use Rattle.std.proofs.lemmas.Bool.{false≢true}
use Rattle.std.proofs.lemmas.Result.{OkIff-decides}
use Rattle.std.proofs.lemmas.Fmt.{decimal_injective}
use Rattle.site_ids.specs.Ids.{IsNode}
use Rattle.engine_common.proofs.LineLemmas.{behind, fitted}
use Rattle.engine_schedule.proofs.schedule.cluster_in.Goals as goal

pub returns-in_err-number : goal.returns-in_err-number
returns-in_err-number c = rw c.from_residual-in_err-number.ensures (λ p ok is.
    let n = c.in_ok-read_number.field-0 in
    let same : n ≡ p = decimal_injective n p c.in_ok-read_number.ensures.0 (omega arith) (sym c.in_ok-read_number.ensures.1 ∙ behind (codes "nodes ") c.args.head.now _ _ c.in_ok-after.ensures is) in
    let fits : is_ok c.try_from.result ≡ true = (OkIff-decides c.try_from.result _ n c.try_from.ensures).1 (omega arith) in
    false≢true (c.in_err-number.ensures.variant ∙ fits))

cluster_of_word : (r : Option ℕ) (n : ℕ) (head word : List ℕ) → n < 2 ^ 64 → head ≡ codes "nodes " ++ word → word ≡ decimal n → MatchOption r (¬ IsNode 9 n) (λ p. (p ≡ n) × IsNode 9 n)
    → MatchOption r ((p : ℕ) → IsNode 9 p → head ≢ codes "nodes " ++ decimal p) (λ p. IsNode 9 p × (head ≡ codes "nodes " ++ decimal p))
cluster_of_word None n head word small whole is h = λ p ok e.
    let same : n ≡ p = decimal_injective n p small (omega arith) (sym is ∙ behind (codes "nodes ") head word (decimal p) whole e) in h (omega arith, omega arith)
cluster_of_word (Some p) n head word small whole is h = (rw h.0 h.1, whole ∙ ap (λ t. codes "nodes " ++ t) (is ∙ ap decimal (sym h.0)))

pub returns : goal.returns
returns c =
    let n = c.in_ok-read_number.field-0 in
    let same : c.in_ok-number.number ≡ n = fitted c.try_from.result _ n c.in_ok-number.number c.try_from.ensures c.in_ok-number.ensures.value in
    cluster_of_word c.new.result n c.args.head.now c.in_ok-after.field-0.now c.in_ok-read_number.ensures.0 c.in_ok-after.ensures c.in_ok-read_number.ensures.1 (rw same at c.new.ensures)
