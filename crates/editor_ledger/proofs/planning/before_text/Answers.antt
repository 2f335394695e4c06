use Rattle.std.proofs.Common.{arith}
use Rattle.std.proofs.lemmas.Grind.{common_steps}
use Rattle.editor_ledger.proofs.planning.before_text.Goals as goal

pub returns-in_ok-from_str-in-Some-first_about : goal.returns-in_ok-from_str-in-Some-first_about
returns-in_ok-from_str-in-Some-first_about c = λ texts has. grind (arith, common_steps, c.first_about.ensures texts has)

pub returns-in_ok-removal-in-None : goal.returns-in_ok-removal-in-None
returns-in_ok-removal-in-None c = λ texts has. grind (arith, common_steps, c.first_about.ensures texts has)
