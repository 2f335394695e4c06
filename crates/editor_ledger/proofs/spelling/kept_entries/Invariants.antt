use Rattle.std.proofs.Common.{◌≡◌, map, take, string_bytes}
use Rattle.std.specs.List.{flat_map}
use Rattle.editor_ledger.specs.Spelling.{kept_entry}
use Rattle.editor_ledger.proofs.spelling.kept_entries.Given as goal

-- those so far
abbrev pub invariant-loop-had : goal.invariant-loop-had
invariant-loop-had l = string_bytes l.text ≡ flat_map kept_entry (map string_bytes (take l.had-index l.kept))
