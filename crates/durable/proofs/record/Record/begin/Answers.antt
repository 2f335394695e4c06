use Rattle.durable.proofs.Batches.{begun}
use Rattle.durable.proofs.record.Record.begin.Goals as goal

pub returns-clause-begun : goal.returns-clause-begun
returns-clause-begun g c = λ d entries ready. begun g.D.Disk.stands_for c.args.self.now c.open.new.self d entries ready (c.in_ok-open.ensures.opened ready.stored.none_staged).1
