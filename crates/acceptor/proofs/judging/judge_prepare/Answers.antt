use Rattle.std.proofs.Common.{sym, subst, rules}
use Rattle.acceptor.specs.Judging.{IsVotedAt}
use Rattle.acceptor.proofs.judging.judge_prepare.Goals as goal

pub returns-in-Some-vote : goal.returns-in-Some-vote
returns-in-Some-vote c = (search rules, subst (λ vote. IsVotedAt vote c.args.ballot) (sym c.in-Some-vote.is) (search rules))
