use Rattle.std.proofs.Common.{arith}
use Rattle.durable.specs.Entries.{Round}
use Rattle.durable.specs.Histories.{Advances}
use Rattle.durable.proofs.Kept.{kept_more}
use Rattle.durable.proofs.recorded.Recorded.take_round.Goals as goal

pub returns : goal.returns
returns c = (
  c.keep_round.ensures.gate,
  λ entries first kept.
      let advances : Advances entries (Round c.args.round) = omega (arith, kept.round, c.if-round-self.false) in
      (advances, kept_more entries (Round c.args.round) c.args.self.now _ advances c.keep_round.ensures.remembers kept),
)
