use Rattle.std.proofs.Common.{subst, ◌∙◌}
use Rattle.http_read.specs.Bytes.{end_of, IsGiven}
use Rattle.server.proofs.Noting.{one_noted}
use Rattle.server.proofs.saying.tell_note.Goals as goal

pub returns-in-Ok : goal.returns-in-Ok
returns-in-Ok g c = one_noted _ c.args.note.now (subst (IsGiven (end_of g.E.Write.contents c.args.err.now c.give.new.err)) (c.as_str.ensures.value ∙ c.in-Ok.ensures) c.give.ensures)
