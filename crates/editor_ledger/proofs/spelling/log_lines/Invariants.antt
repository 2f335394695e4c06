use Rattle.std.proofs.Common.{◌≡◌, take, string_bytes}
use Rattle.std.specs.List.{flat_map}
use Rattle.editor_ledger.specs.Spelling.{released_line}
use Rattle.editor_ledger.proofs.spelling.log_lines.Given as goal

-- those so far
abbrev pub invariant-loop-released : goal.invariant-loop-released
invariant-loop-released l = string_bytes l.text ≡ flat_map released_line (take l.released-index l.log)
