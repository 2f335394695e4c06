-- What the code's lines of a script stand for.
use Rattle.std.specs.Prelude.{ℕ, List}
use Rattle.engine_script.specs.declared.script.Line.{Line as Code}
use Rattle.engine_script.specs.declared.script.Line.TheVariants as code
use Rattle.engine_common.specs.declared.words.SubmissionLine.{SubmissionLine}
use Rattle.engine_script.specs.Script.{Line, post_line, get_line, turns_line, drive_line, post_words}
use Rattle.engine_script.specs.Script.{FitsPost}

abbrev pub line_view : Code → Line
line_view (code.Post node ticket text) = post_line node ticket text.now
line_view (code.Get node target) = get_line node target.now
line_view (code.Turns count) = turns_line count
line_view (code.Drive node turns) = drive_line node turns

abbrev pub posted_words : SubmissionLine → List (List ℕ)
posted_words s = post_words s.node s.ticket s.text_len

abbrev pub post_fits : SubmissionLine → Type 0
post_fits s = FitsPost s.node s.ticket s.text_len
