use Rattle.std.proofs.Common.{arith}
use Rattle.std.proofs.lemmas.Grind.{common_steps}
use Rattle.editor_ledger.proofs.planning.removal_of.Goals as goal
use Rattle.editor_ledger.proofs.planning.removal_of.Goals.{else-puts-via-then-puts+else-not-has_about, else-puts-via-else-puts}

pub returns-in_ok-removal : goal.returns-in_ok-removal
returns-in_ok-removal c = λ texts has. grind (arith, common_steps, c.has_about.ensures texts has)

pub returns-else-puts : goal.returns-else-puts
returns-else-puts c = λ texts has.
    elim c.else-puts.branch [
      | else-puts-via-then-puts+else-not-has_about w ↦ grind (arith, common_steps, w.has_about.ensures texts has)
      | else-puts-via-else-puts w ↦ grind (arith, common_steps)
    ]
