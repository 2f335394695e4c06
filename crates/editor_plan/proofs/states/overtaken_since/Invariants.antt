use Rattle.std.proofs.Common.{◌≡◌, map, filter, take, nat_lt, string_bytes}
use Rattle.editor_ledger.specs.View.{past_view}
use Rattle.editor_plan.proofs.states.overtaken_since.Given as goal

-- those so far
abbrev pub invariant-loop-had : goal.invariant-loop-had
invariant-loop-had l = map string_bytes l.texts.items ≡ map (λ g. g.text) (filter (λ g. nat_lt l.last g.number) (map past_view (take l.had-index l.had-items)))
