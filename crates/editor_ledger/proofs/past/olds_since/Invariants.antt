use Rattle.std.proofs.Common.{◌≡◌, map, take, string_bytes}
use Rattle.editor_ledger.specs.Firsts.{HasFirsts}
use Rattle.editor_ledger.specs.Past.{olds_since}
use Rattle.editor_ledger.specs.View.{past_view}
use Rattle.editor_ledger.proofs.past.olds_since.Given as goal

-- those so far, which the map has
abbrev pub invariant-loop-had : goal.invariant-loop-had
invariant-loop-had l = (map string_bytes l.olds.items ≡ olds_since l.ticket (map past_view (take l.had-index l.past))) × HasFirsts l.firsts (map string_bytes l.olds.items)
