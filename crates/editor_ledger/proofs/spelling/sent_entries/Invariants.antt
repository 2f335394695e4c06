use Rattle.std.proofs.Common.{◌≡◌, map, take, string_bytes}
use Rattle.std.specs.List.{flat_map}
use Rattle.editor_ledger.specs.Spelling.{sent_entry}
use Rattle.editor_ledger.specs.View.{given_view}
use Rattle.editor_ledger.proofs.spelling.sent_entries.Given as goal

-- those so far
abbrev pub invariant-loop-given : goal.invariant-loop-given
invariant-loop-given l = string_bytes l.text ≡ flat_map sent_entry (map given_view (take l.given-index l.sent))
