use Rattle.server.specs.Mailing.{waiting_of}
use Rattle.server.proofs.Resting.{did_come, waits_or_not}
use Rattle.server.proofs.server.Server.has_come.Goals as goal

pub returns-then-stepped : goal.returns-then-stepped
returns-then-stepped g c = did_come c.args.stepped.came (waiting_of c.args.self.now.mail) c.if-stepped.true

pub returns-else-stepped : goal.returns-else-stepped
returns-else-stepped g c =
    waits_or_not c.args.stepped.came c.is_empty.result (waiting_of c.args.self.now.mail) c.if-stepped.false
    c.is_empty.ensures
