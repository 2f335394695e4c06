use Rattle.std.proofs.Common.{subst}
use Rattle.server_pace.specs.Keeping.{IsNextBlock}
use Rattle.server_pace.proofs.pace.Pace.next_block.Goals as goal

pub returns : goal.returns
returns c = subst (λ k. IsNextBlock k c.args.self.now.times c.args.now c.args.known c.next.result) c.noted.ensures c.next.ensures
