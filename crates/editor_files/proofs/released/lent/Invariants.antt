use Rattle.std.proofs.Common.{◌≡◌, map, take, string_bytes}
use Rattle.editor_files.proofs.released.lent.Given as goal

-- those so far
abbrev pub invariant-loop-text : goal.invariant-loop-text
invariant-loop-text l = map (λ t. t.now) l.lent.items ≡ map string_bytes (take l.text-index l.texts)
