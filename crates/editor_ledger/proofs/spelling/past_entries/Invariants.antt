use Rattle.std.proofs.Common.{◌≡◌, map, take, string_bytes}
use Rattle.std.specs.List.{flat_map}
use Rattle.editor_ledger.specs.Spelling.{past_entry}
use Rattle.editor_ledger.specs.View.{past_view}
use Rattle.editor_ledger.proofs.spelling.past_entries.Given as goal

-- those so far
abbrev pub invariant-loop-had : goal.invariant-loop-had
invariant-loop-had l = string_bytes l.text ≡ flat_map past_entry (map past_view (take l.had-index l.past))
