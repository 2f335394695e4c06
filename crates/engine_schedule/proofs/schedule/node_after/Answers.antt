use Rattle.std.proofs.Common.{◌≡◌, ◌≢◌, ◌++◌, ◌∙◌, ℕ, List, ap, decimal, Option, Some, None, MatchOption}
use Rattle.site_ids.specs.Ids.{IsNode}
use Rattle.engine_common.proofs.LineLemmas.{behind}
use Rattle.engine_schedule.proofs.schedule.node_after.Goals as goal

node_behind : (r : Option ℕ) (front head rest : List ℕ) → head ≡ front ++ rest → MatchOption r ((p : ℕ) → IsNode 9 p → rest ≢ decimal p) (λ p. IsNode 9 p × (rest ≡ decimal p))
    → MatchOption r ((p : ℕ) → IsNode 9 p → head ≢ front ++ decimal p) (λ p. IsNode 9 p × (head ≡ front ++ decimal p))
node_behind None front head rest is h = λ p ok e. h p ok (behind front head rest (decimal p) is e)
node_behind (Some p) front head rest is h = (h.0, is ∙ ap (λ t. front ++ t) h.1)

pub returns : goal.returns
returns c = node_behind c.read_node.result c.args.front.now c.args.head.now c.in_ok-after.field-0.now c.in_ok-after.ensures c.read_node.ensures

pub returns-in_err-after : goal.returns-in_err-after
returns-in_err-after c = rw c.from_residual.ensures (λ p ok is. c.in_err-after.ensures (decimal p) is)
