use Rattle.std.proofs.Common.{map, take, string_bytes}
use Rattle.editor_ledger.specs.Firsts.{HasTexts}
use Rattle.editor_ledger.proofs.firsts.texts_in.Given as goal

-- the texts so far
abbrev pub invariant-loop-text : goal.invariant-loop-text
invariant-loop-text l = HasTexts l.set (map string_bytes (take l.text-index l.texts))
