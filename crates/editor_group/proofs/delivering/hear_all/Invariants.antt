use Rattle.editor_plan.specs.Moves.{HearsAnswers}
use Rattle.editor_group.proofs.delivering.hear_all.Given as goal

abbrev pub invariant-loop-ask : goal.invariant-loop-ask
invariant-loop-ask l = HearsAnswers l.fn.saved.ledger.now l.saved.ledger.now
