use Rattle.std.proofs.Common.{◌≡◌, ◌≢◌, ◌<◌, ◌^◌, ◌∙◌, ℕ, List, sym, ap, arith, true, is_ok, decimal, Option, Some, None, MatchOption}
use Rattle.std.proofs.lemmas.Bool.{false≢true}
use Rattle.std.proofs.lemmas.Result.{OkIff-decides}
use Rattle.std.proofs.lemmas.Fmt.{decimal_injective}
use Rattle.site_ids.specs.Ids.{IsNode}
use Rattle.engine_common.proofs.LineLemmas.{fitted}
use Rattle.engine_common.proofs.words.read_node.Goals as goal

pub returns-in_err-number : goal.returns-in_err-number
returns-in_err-number c = rw c.from_residual-in_err-number.ensures (λ p ok is.
    let n = c.in_ok-read_number.field-0 in
    let same : n ≡ p = decimal_injective n p c.in_ok-read_number.ensures.0 (omega arith) (sym c.in_ok-read_number.ensures.1 ∙ is) in
    let fits : is_ok c.try_from.result ≡ true = (OkIff-decides c.try_from.result _ n c.try_from.ensures).1 (omega arith) in
    false≢true (c.in_err-number.ensures.variant ∙ fits))

node_of_word : (r : Option ℕ) (n k : ℕ) (word : List ℕ) → n < 2 ^ 64 → word ≡ decimal n → k ≡ 9 → MatchOption r (¬ IsNode k n) (λ p. (p ≡ n) × IsNode k n)
    → MatchOption r ((p : ℕ) → IsNode 9 p → word ≢ decimal p) (λ p. IsNode 9 p × (word ≡ decimal p))
node_of_word None n k word small is largest h = λ p ok e.
    let same : n ≡ p = decimal_injective n p small (omega arith) (sym is ∙ e) in h (omega arith, omega arith)
node_of_word (Some p) n k word small is largest h = ((omega (arith, h.1.0, h.0), omega (arith, h.1.1, h.0)), is ∙ ap decimal (sym h.0))

pub returns : goal.returns
returns c =
    let n = c.in_ok-read_number.field-0 in
    let same : c.in_ok-number.number ≡ n = fitted c.try_from.result _ n c.in_ok-number.number c.try_from.ensures c.in_ok-number.ensures.value in
    node_of_word c.node.result n c.in_ok-largest.largest c.args.word.now c.in_ok-read_number.ensures.0 c.in_ok-read_number.ensures.1 c.in_ok-largest.ensures.0 (rw same at c.node.ensures)
