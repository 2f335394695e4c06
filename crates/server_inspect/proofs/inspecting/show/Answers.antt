use Rattle.std.proofs.Common.{inl, inr, subst, ◌∙◌}
use Rattle.http_read.specs.Bytes.{end_of, IsBroken}
use Rattle.server_inspect.proofs.inspecting.show.Goals as goal

pub returns-in-Ok : goal.returns-in-Ok
returns-in-Ok g c = inr (inl (
  c.args.view.now,
  subst (IsBroken (end_of g.W.Write.contents c.args.out.now c.write_all.new.out)) (c.as_bytes.ensures.value ∙ c.in-Ok.ensures) c.in-Err-write_all.ensures.err,
  c.say.ensures.said,
  c.say.ensures.status,
))
