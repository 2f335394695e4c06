use Rattle.std.proofs.Common.{sym, ap, ◌∙◌}
use Rattle.proposer.specs.declared.open_attempt.OpenAttempt.{OpenAttempt}
use Rattle.proposer.proofs.Trying.{same_attempt}
use Rattle.proposer.proofs.proposer.has_own.Goals as goal

pub returns-in-Some : goal.returns-in-Some
returns-in-Some c = (
  λ e. (c.in-Some.attempt, c.in-Some.is, sym c.as_bytes.ensures ∙ c.is_same.ensures.0 e),
  λ t. c.is_same.ensures.1 (c.as_bytes.ensures ∙ ap (λ (a : OpenAttempt). a.own) (same_attempt c.in-Some.attempt t.0 (sym c.in-Some.is ∙ t.1)) ∙ t.2),
)
