-- What the code's lines stand for.
use Rattle.std.specs.Prelude.{ℕ, List}
use Rattle.engine_schedule.specs.declared.schedule.Line.{Line as Code}
use Rattle.engine_schedule.specs.declared.schedule.Line.TheVariants as code
use Rattle.engine_common.specs.declared.words.SubmissionLine.{SubmissionLine}
use Rattle.engine_schedule.specs.Schedule.{Line, submit_line, tick_line, widen_line, ask_line, tell_line}
use Rattle.engine_schedule.specs.Schedule.{keep_line, restart_line, replace_line, deliver_line, arm_line}
use Rattle.engine_schedule.specs.Schedule.{crash_line, settle_line, quiet_line, show_line, get_line}
use Rattle.engine_schedule.specs.Schedule.{trace_line, submit_words}

abbrev pub line_view : Code → Line
line_view (code.Submit node ticket text) = submit_line node ticket text.now
line_view (code.Tick node) = tick_line node
line_view (code.Widen node) = widen_line node
line_view (code.Ask node) = ask_line node
line_view (code.Tell node first) = tell_line node first
line_view (code.Keep node at) = keep_line node at
line_view (code.Restart node) = restart_line node
line_view (code.Replace node floor) = replace_line node floor
line_view (code.Deliver node index) = deliver_line node index
line_view (code.Arm node calls) = arm_line node calls
line_view (code.Crash node choice) = crash_line node choice
line_view code.Settle = settle_line
line_view (code.Quiet node) = quiet_line node
line_view (code.Show node) = show_line node
line_view (code.Get node release path) = get_line node release path.now
line_view code.Trace = trace_line

abbrev pub submission_words : SubmissionLine → List (List ℕ)
submission_words s = submit_words s.node s.ticket s.text_len
