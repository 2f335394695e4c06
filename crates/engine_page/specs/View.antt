-- What the code's structs and enums stand for.
use Rattle.std.specs.Prelude.{string_bytes}
use Rattle.release.specs.Standing.{answer_view}
use Rattle.engine_page.specs.Framed.{FramedCommand}
use Rattle.engine_page.specs.Words.{Words}
use Rattle.engine_page.specs.Verdict.{Verdict, shows, says}
use Rattle.engine_page.specs.declared.framed.Line.{Line}
use Rattle.engine_page.specs.declared.framed.Framed.{Framed}
use Rattle.engine_page.specs.declared.engine.Outcome.{Outcome}
use Rattle.engine_page.specs.declared.engine.Outcome.TheVariants.{Shows, Says}

abbrev pub line_view : Line → Words
line_view l = record {
  editor = l.editor.now;
  number = l.number.now;
  length_word = l.length_word.now;
  after = l.after.now;
}

abbrev pub framed_view : Framed → FramedCommand
framed_view f = record { ticket = f.ticket; text = f.text.now }

abbrev pub verdict_view : Outcome → Verdict
verdict_view (Shows answer) = shows (answer_view answer)
verdict_view (Says line) = says (string_bytes line)
