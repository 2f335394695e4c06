use Rattle.std.proofs.Common.{◌≡◌, List, ◌++◌, take}
use Rattle.context.specs.View.{items_view, members_view}
use Rattle.context.proofs.Copies.{Entry}
use Rattle.context.proofs.copying.+copies.Given as goal

-- the copy has the items so far
abbrev pub invariant-list_of-loop-item : goal.invariant-list_of-loop-item
invariant-list_of-loop-item l = items_view l.found.items ≡ items_view (take l.item-index l.item-items)

-- the copy has the members so far
abbrev pub invariant-hash_of-loop-key : goal.invariant-hash_of-loop-key
invariant-hash_of-loop-key l =
    (done : List Entry) × (l.members.entries ≡ done ++ l.key-iterator) × (members_view l.found.entries ≡ members_view done)
