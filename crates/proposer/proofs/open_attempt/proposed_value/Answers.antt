use Rattle.std.proofs.Common.{sym, ap}
use Rattle.proposer.specs.Best.{value_by}
use Rattle.proposer.proofs.open_attempt.proposed_value.Goals as goal

pub returns-in-Some : goal.returns-in-Some
returns-in-Some c = sym (ap (λ best. value_by c.args.own.now best) c.in-Some.is)
