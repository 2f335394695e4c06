-- The whole data that a `Data` stands for.
use Rattle.std.specs.Prelude.{List, [], ◌∷◌, map, String, string_bytes}
use Rattle.std.specs.declared.alloc.Global.{Global}
use Rattle.context.specs.Whole.{Whole, null, boolean, int, text, list, hash, Items, no_items, item, Members}
use Rattle.context.specs.Whole.{no_members, member}
use Rattle.context.specs.declared.tree.Data.{Data, fold-Data}
use Rattle.context.specs.declared.tree.Data.TheOpen.{Data-F}

abbrev pub items_of : List Whole → Items
items_of [] = no_items
items_of (d ∷ ds) = item d (items_of ds)

abbrev pub members_of : List (String Global × Whole) → Members
members_of [] = no_members
members_of (m ∷ ms) = member (string_bytes m.0) m.1 (members_of ms)

-- one level, with each value inside already seen as whole data
abbrev pub view_step : Data-F Whole → Whole
view_step Data-F.Null = null
view_step (Data-F.Bool b) = boolean b
view_step (Data-F.Int z) = int z
view_step (Data-F.Text s) = text (string_bytes s)
view_step (Data-F.List v) = list (items_of v.items)
view_step (Data-F.Hash m) = hash (members_of m.entries)

abbrev pub data_view : Data → Whole
data_view = fold-Data Whole view_step

abbrev pub items_view : List Data → Items
items_view ds = items_of (map data_view ds)

abbrev pub members_view : List (String Global × Data) → Members
members_view ms = members_of (map (λ m. (m.0, data_view m.1)) ms)
