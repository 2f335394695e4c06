use Rattle.std.proofs.Common.{◌≡◌}
use Rattle.editor_plan.specs.Moves.{HearsAnswers}
use Rattle.editor_group.proofs.delivering.deliver_at.Given as goal

abbrev pub invariant-loop : goal.invariant-loop
invariant-loop g l = record {
  hears : HearsAnswers l.fn.saved.ledger.now l.saved.ledger.now;
  nodes : l.group.nodes ≡ l.fn.group.nodes;
}
