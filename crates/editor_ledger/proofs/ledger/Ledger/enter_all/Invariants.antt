use Rattle.std.proofs.Common.{◌≡◌, ◌++◌, ℕ, List, length, All, codes}
use denote.Text.{Utf8}
use denote.Shadow.{shadow}
use Rattle.std.specs.List.{flat_map}
use Rattle.editor_ledger.specs.Entries.{Item, FitsItem, item_text}
use Rattle.editor_ledger.proofs.Readings.{Left}
use Rattle.editor_ledger.proofs.ledger.Ledger.enter_all.Given as goal

-- of the entries of a file some are left
abbrev pub invariant-loop : goal.invariant-loop
invariant-loop l = shadow (Utf8 l.rest) × ((items : List Item) (more : List ℕ) → All FitsItem items
    → l.entries ≡ flat_map item_text items ++ (codes "end " ++ more) → Left l.fn.self l.self items more l.rest l.counter (length l.entries))
