use Rattle.std.proofs.Common.{inr, subst, ◌∙◌}
use Rattle.http_read.specs.Bytes.{end_of, IsGiven}
use Rattle.server_faults.proofs.why.tell.Goals as goal

pub returns-in-Ok : goal.returns-in-Ok
returns-in-Ok g c = inr (c.args.cause.now, subst (IsGiven (end_of g.E.Write.contents c.args.err.now c.give.new.err)) (c.as_str.ensures.value ∙ c.in-Ok.ensures) c.give.ensures)
