use Rattle.std.proofs.Common.{◌++◌, ◌∙◌, ap, append_assoc}
use Rattle.engine_script.proofs.client.shown.Goals as goal

pub returns : goal.returns
returns c = (
  c.in-Some.status,
  c.in-Some.body.now,
  c.in-Some.ensures,
  c.in_ok-extend_from_slice.ensures.items ∙ (ap (λ line. line ++ c.in-Some.body.now) (ap (λ v. v.items) c.into_bytes-text.ensures.value ∙ c.in_ok-line.ensures.ok) ∙ simp append_assoc),
)
