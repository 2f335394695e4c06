use Rattle.std.proofs.Common.{◌≡◌, map, take, string_bytes}
use Rattle.std.specs.List.{filter_map}
use Rattle.editor_ledger.specs.Plans.{removal_of}
use Rattle.editor_ledger.proofs.planning.removals.Given as goal

-- those of the texts so far
abbrev pub invariant-loop-text : goal.invariant-loop-text
invariant-loop-text l = map string_bytes l.plan.items ≡ filter_map (removal_of (map (λ t. t.now) l.wanted)) (map string_bytes (take l.text-index l.kept))
