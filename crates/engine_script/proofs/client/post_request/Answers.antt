use Rattle.std.proofs.Common.{◌++◌, ◌∙◌, ap, append_assoc}
use Rattle.engine_script.proofs.client.post_request.Goals as goal

pub returns : goal.returns
returns c = c.in_ok-extend_from_slice.ensures.items ∙ (ap (λ head. head ++ c.args.text.now) (ap (λ v. v.items) c.into_bytes-request.ensures.value ∙ c.in_ok-head.ensures.ok) ∙ simp append_assoc)
