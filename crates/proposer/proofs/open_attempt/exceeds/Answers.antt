use Rattle.std.proofs.Common.{◌↔◌, Some, IsTrue, sym, subst, rules}
use Rattle.proposer.specs.Best.{Exceeds}
use Rattle.proposer.proofs.open_attempt.exceeds.Goals as goal

pub returns-in-Some : goal.returns-in-Some
returns-in-Some c = subst (λ best. IsTrue c.lt.result ↔ Exceeds (Some c.args.vote.now) best) (sym c.in-Some.is) (search rules)
