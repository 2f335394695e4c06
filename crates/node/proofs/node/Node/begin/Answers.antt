use Rattle.std.proofs.Common.{refl, ap, rules}
use Rattle.durable.proofs.Results.{on_err}
use Rattle.node.proofs.Stepping.{over_another, still_on_disk, unchanged_store}
use Rattle.node.proofs.node.Node.begin.Goals as goal

pub returns-in_err-begin-clause-same : goal.returns-in_err-begin-clause-same
returns-in_err-begin-clause-same g c s = over_another _ _ s (search rules) (search rules) refl (ap (λ r. r.stopped) c.begin.ensures.same) (ap (λ r. r.recorded) c.begin.ensures.same)

pub returns-clause-same : goal.returns-clause-same
returns-clause-same g c s = over_another _ _ s (search rules) (search rules) refl (ap (λ r. r.stopped) c.begin.ensures.same) (ap (λ r. r.recorded) c.begin.ensures.same)

pub returns-in_err-begin-clause-refused : goal.returns-in_err-begin-clause-refused
returns-in_err-begin-clause-refused g c = on_err c.from_residual.result (λ s d on.
    still_on_disk g.D.Disk.stands_for c.args.self.now _ s s d (search rules) (unchanged_store c.args.self.now.store c.begin.new.self c.in_err-begin.ensures.refused) refl refl on)
