use Rattle.std.proofs.Common.{◌≡◌, Some, List, ◌++◌, take}
use Rattle.serde_json.specs.View.{items_view as json_items, members_view as json_members}
use Rattle.context.specs.Whole.{whole_items, whole_members}
use Rattle.context.specs.View.{items_view, members_view}
use Rattle.context.proofs.Copies.{JsonEntry}
use Rattle.context.proofs.json.+convert.Given as goal

-- what was copied is the whole data of the items so far
abbrev pub invariant-list_of-loop-item : goal.invariant-list_of-loop-item
invariant-list_of-loop-item l = whole_items (json_items (take l.item-index l.item-items)) ≡ Some (items_view l.found.items)

-- what was copied is the whole data of the members so far
abbrev pub invariant-hash_of-loop-key : goal.invariant-hash_of-loop-key
invariant-hash_of-loop-key l =
    (done : List JsonEntry) × (l.members.entries ≡ done ++ l.key-iterator) × (whole_members (json_members done) ≡ Some (members_view l.found.entries))
