use Rattle.std.proofs.Common.{◌≡◌, map, take, string_bytes}
use Rattle.std.specs.List.{flat_map}
use Rattle.editor_ledger.specs.Spelling.{message_entry}
use Rattle.editor_ledger.specs.View.{message_view}
use Rattle.editor_ledger.proofs.spelling.message_entries.Given as goal

-- those so far
abbrev pub invariant-loop-message : goal.invariant-loop-message
invariant-loop-message l = string_bytes l.text ≡ flat_map message_entry (map message_view (take l.message-index l.messages))
