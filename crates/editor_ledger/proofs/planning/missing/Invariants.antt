use Rattle.std.proofs.Common.{◌≡◌, map, take, string_bytes}
use Rattle.editor_ledger.specs.Plans.{missing}
use Rattle.editor_ledger.proofs.planning.missing.Given as goal

-- those of the texts so far
abbrev pub invariant-loop-text : goal.invariant-loop-text
invariant-loop-text l = map string_bytes l.plan.items
    ≡ missing (map string_bytes l.again) (map string_bytes l.kept) (map (λ t. t.now) (take l.text-index l.wanted))
