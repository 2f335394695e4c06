use Rattle.std.proofs.Common.{◌≡◌, Option, Some, None, IsSome, IsTrue, arith, rules}
use Rattle.proposer.specs.Attempts.{Attempt}
use Rattle.node.proofs.Elsewhere.{tried_elsewhere}
use Rattle.node.proofs.node.Node.tried_elsewhere.Goals as goal

none_is_not : (o : Option Attempt) → o ≡ None → IsSome o → ⊥
none_is_not None e some = absurd (cc)
none_is_not (Some a) e some = absurd (cc)

pub returns : goal.returns
returns g c = λ s elsewhere stands first are.
    let here = c.tries_at.ensures s stands in
    let x = tried_elsewhere s c.args.first c.attempts.result c.from-here.result elsewhere stands.tidy first are (c.attempts.ensures s.attempts stands.parts.attempts)
    (λ some. let t = here.1 some in search (rules, t)) (λ none. let f : IsTrue c.tries_at.result → ⊥ = λ t. none_is_not (s.attempts c.args.first) none (here.0 t) in search (rules, f)) in
    omega (arith, x.0, x.1, c.saturating_sub.ensures, c.min.ensures)
