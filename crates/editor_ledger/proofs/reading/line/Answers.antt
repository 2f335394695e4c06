use Rattle.std.proofs.Common.{◌∷◌, ◌++◌, decimal}
use Rattle.editor_ledger.proofs.Readings.{front_is, front_there}
use Rattle.editor_ledger.proofs.Spellings.{newline}
use Rattle.editor_ledger.proofs.reading.line.Goals as goal

pub returns-in-Some : goal.returns-in-Some
returns-in-Some c n more fits is =
    c.number.ensures n more fits newline (front_is c.args.word.now c.args.text.now c.in-Some.rest.now (decimal n ++ (10 ∷ more)) c.in-Some.ensures is)

pub returns-in-None : goal.returns-in-None
returns-in-None c n more fits is = front_there c.args.word.now c.args.text.now (decimal n ++ (10 ∷ more)) c.in-None.ensures is
