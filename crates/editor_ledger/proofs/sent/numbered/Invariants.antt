use Rattle.std.proofs.Common.{◌≡◌, ◌+◌, length, map, string_bytes}
use Rattle.editor_ledger.specs.Steps.{numbered}
use Rattle.editor_ledger.specs.View.{given_view}
use Rattle.editor_ledger.proofs.sent.numbered.Given as goal

-- those of the texts so far
abbrev pub invariant-loop-text : goal.invariant-loop-text
invariant-loop-text l = record {
  counted : l.number ≡ l.next + length l.yielded;
  given : map given_view l.sent.items ≡ numbered l.next (map string_bytes l.yielded);
}
