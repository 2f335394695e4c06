use Rattle.std.proofs.Common.{◌≡◌, map, take, string_bytes}
use Rattle.editor_ledger.specs.Plans.{overtaken}
use Rattle.editor_ledger.specs.View.{past_view}
use Rattle.editor_ledger.proofs.planning.overtaken.Given as goal

-- those of the texts so far
abbrev pub invariant-loop-text : goal.invariant-loop-text
invariant-loop-text l = map past_view l.past.items ≡ overtaken l.since (map string_bytes l.kept) (map string_bytes (take l.text-index l.plan))
