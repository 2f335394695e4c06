use Rattle.std.proofs.Common.{◌≡◌, map, take, string_bytes}
use Rattle.editor_ledger.specs.Past.{texts_at}
use Rattle.editor_plan.proofs.states.texts_at_each.Given as goal

-- those so far
abbrev pub invariant-loop-ticket : goal.invariant-loop-ticket
invariant-loop-ticket l = map (λ t. map string_bytes t.items) l.states.items ≡ map (λ t. texts_at t l.ledger) (take l.ticket-index l.tickets)
