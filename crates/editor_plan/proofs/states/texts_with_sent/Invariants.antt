use Rattle.std.proofs.Common.{◌≡◌, map, take, ◌++◌, string_bytes}
use Rattle.editor_ledger.specs.View.{given_view}
use Rattle.editor_plan.proofs.states.texts_with_sent.Given as goal

-- what was there, and those so far
abbrev pub invariant-loop-sent : goal.invariant-loop-sent
invariant-loop-sent l = map string_bytes l.texts.items ≡ l.ledger.kept ++ map (λ g. g.text) (map given_view (take l.sent-index l.sent-items))
