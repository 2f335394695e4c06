use Rattle.std.proofs.Common.{◌≡◌, map, take, filter, not, string_bytes}
use Rattle.editor_ledger.specs.Past.{is_among}
use Rattle.editor_ledger.proofs.past.others.Given as goal

-- those so far
abbrev pub invariant-loop-text : goal.invariant-loop-text
invariant-loop-text l = map string_bytes l.texts.items ≡ filter (λ t. not (is_among (map string_bytes l.olds) t)) (map string_bytes (take l.text-index l.kept))
