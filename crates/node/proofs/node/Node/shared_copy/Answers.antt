use Rattle.std.proofs.Common.{◌∙◌}
use Rattle.node.proofs.Queueing.{is_true}
use Rattle.node.proofs.node.Node.shared_copy.Goals as goal

pub returns-then-is_same : goal.returns-then-is_same
returns-then-is_same g c = c.in_ok-try_clone.ensures ∙ c.is_same.ensures.0 (is_true c.is_same.result c.if-is_same.true)
