use Rattle.std.proofs.Common.{◌≡◌, map, take, string_bytes}
use Rattle.editor_plan.proofs.states.kept_texts.Given as goal

-- those so far
abbrev pub invariant-loop-text : goal.invariant-loop-text
invariant-loop-text l = map string_bytes l.texts.items ≡ map string_bytes (take l.text-index l.text-items)
