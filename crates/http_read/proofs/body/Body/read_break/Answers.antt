use Rattle.std.proofs.Common.{refl}
use Rattle.http_read.proofs.Stages.{break_wrong, break_passed}
use Rattle.http_read.proofs.body.Body.read_break.Goals as goal

pub returns-in-Wrong : goal.returns-in-Wrong
returns-in-Wrong c = break_wrong c.args.self.now c.args.inbox.now c.pass_break.new.inbox c.requires c.in-Wrong.ensures

pub returns-in-Passed : goal.returns-in-Passed
returns-in-Passed c = break_passed c.args.self.now _ _ _ c.requires refl refl c.in-Passed.ensures
