use Rattle.node.proofs.Opening.{opens}
use Rattle.node.proofs.node.Node.open.Goals as goal

pub returns-in-Ok-clause-opened : goal.returns-in-Ok-clause-opened
returns-in-Ok-clause-opened g c =
    let read = c.in-Ok.ensures.opened in (
      read.0,
      opens g.D.Disk.stands_for c.args.disk _ read.0 read.1 c.new-in-Ok.ensures.none c.new-in-Ok-2.ensures c.new.ensures.none c.new-in-Ok-3.ensures c.new.ensures.heard (λ _. 0) c.new-in-Ok-4.ensures,
    )
