use Rattle.std.proofs.Common.{rules, ◌++◌, codes, decimal, append_assoc}
use Rattle.engine_schedule.proofs.tracing.value_words.Goals as goal

pub returns-then-bytes-ge-TICKET_BYTES : goal.returns-then-bytes-ge-TICKET_BYTES
returns-then-bytes-ge-TICKET_BYTES c =
    let joined = append_assoc (decimal c.ticket-editor.result.editor) (codes " " ++ decimal c.ticket-editor.result.number) (codes "\n") in
    search (joined, rules)
