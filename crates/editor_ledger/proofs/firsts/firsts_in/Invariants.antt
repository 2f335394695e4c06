use Rattle.std.proofs.Common.{map, take}
use Rattle.editor_ledger.specs.Firsts.{HasFirsts}
use Rattle.editor_ledger.proofs.firsts.firsts_in.Given as goal

-- those of the texts so far
abbrev pub invariant-loop-text : goal.invariant-loop-text
invariant-loop-text l = HasFirsts l.firsts (map (λ t. t.now) (take l.text-index l.texts))
