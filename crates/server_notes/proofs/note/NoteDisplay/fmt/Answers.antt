use Rattle.std.proofs.Common.{sym, subst, ◌++◌, codes, decimal}
use Rattle.std.specs.Fmt.{HasWritten}
use Rattle.server_notes.specs.Lines.{text_of}
use Rattle.server_notes.proofs.note.NoteDisplay.fmt.Goals as goal

-- the number is the node's
pub returns-in-Silent-clause-writes : goal.returns-in-Silent-clause-writes
returns-in-Silent-clause-writes g c = λ plain ok.
    subst (λ n. HasWritten {W = g.row.W.Denot} g.W.Write.write_str_gives c.args.f.now (text_of n) c.write-in-Silent.new.self) (sym c.in-Silent.is)
    (subst (λ p. HasWritten {W = g.row.W.Denot} g.W.Write.write_str_gives c.args.f.now (codes "node " ++ (decimal p ++ (codes " not heard for " ++ (decimal c.in-Silent.seconds ++ codes " s")))) c.write-in-Silent.new.self)
    c.number-number.ensures.is (c.write-in-Silent.ensures.writes plain ok))

pub returns-in-Heard-clause-writes : goal.returns-in-Heard-clause-writes
returns-in-Heard-clause-writes g c = λ plain ok.
    subst (λ n. HasWritten {W = g.row.W.Denot} g.W.Write.write_str_gives c.args.f.now (text_of n) c.write-in-Heard.new.self) (sym c.in-Heard.is)
    (subst (λ p. HasWritten {W = g.row.W.Denot} g.W.Write.write_str_gives c.args.f.now (codes "node " ++ (decimal p ++ (codes " is heard again, after " ++ (decimal c.in-Heard.seconds ++ codes " s")))) c.write-in-Heard.new.self)
    c.number-number-in-Heard.ensures.is (c.write-in-Heard.ensures.writes plain ok))

pub returns-in-Published-clause-writes : goal.returns-in-Published-clause-writes
returns-in-Published-clause-writes g c = λ plain ok.
    subst (λ n. HasWritten {W = g.row.W.Denot} g.W.Write.write_str_gives c.args.f.now (text_of n)
    c.write-in-Published.new.self) (sym c.in-Published.is)
    (c.write-in-Published.ensures.writes plain ok)
