use Rattle.std.proofs.Common.{◌∙◌, sym, ap, subst, refl, inr, map}
use Rattle.httparse.specs.Spans.{header_bytes}
use Rattle.http_read.specs.Targets.{AsksFor}
use Rattle.http_read.proofs.SameFaults.{same_fault}
use Rattle.http_read.proofs.judging.judge.Goals as goal

pub returns-in-None : goal.returns-in-None
returns-in-None c = λ head at. inr (
  sym (same_fault c.args.found.version _ _ _ _ _ at.version (c.of.ensures ∙ at.method)
      (ap (map (header_bytes c.args.bytes.now)) c.fields_of-fields.ensures.fields ∙ at.fields)) ∙ c.in-Ok.ensures.sound,
  refl,
  λ path asks. (rw c.in-None.is at c.in_ok-path-in-Ok.ensures) path
      (subst (λ t. AsksFor t path) (sym (c.of-in-Ok.ensures ∙ at.path)) asks),
)
