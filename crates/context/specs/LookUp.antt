-- Names looked up in a stack of data, from the top down; truth and items.
use Rattle.std.specs.Prelude.{ℕ, Bool, true, false, ◌==◌, List, [], ◌∷◌, Option, None, Some}
use Rattle.std.specs.List.{slice_split}
use Rattle.std.specs.Str.{bytes_eq}
use Rattle.context.specs.Whole.{Whole, null, boolean, list, hash, Items, no_items, item, Members, no_members}
use Rattle.context.specs.Whole.{member}

-- the parts of a name between its dots
abbrev pub parts : List ℕ → List (List ℕ)
parts name = slice_split (λ b. b == 46) name

abbrev pub at_key : List ℕ → Members → Option Whole
at_key k no_members = None
at_key k (member l d ms) = elim (bytes_eq k l) [ true ↦ Some d | false ↦ at_key k ms ]

-- what a value has at a key: nothing, unless it is a hash with that key
abbrev pub member_of : List ℕ → Whole → Option Whole
member_of k (hash ms) = at_key k ms
member_of k _ = None

-- the first of a stack that has the key gives the value
abbrev pub nearest : List ℕ → List Whole → Option Whole
nearest k [] = None
nearest k (d ∷ below) = elim (member_of k d) [ Some found ↦ Some found | None ↦ nearest k below ]

-- each further part is looked up only in the result of the part before it
abbrev pub within : Option Whole → List (List ℕ) → Option Whole
within None ks = None
within (Some d) [] = Some d
within (Some d) (k ∷ ks) = within (member_of k d) ks

abbrev pub top : List Whole → Option Whole
top [] = None
top (d ∷ below) = Some d

abbrev pub dotted : List Whole → List (List ℕ) → Option Whole
dotted stack [] = None
dotted stack (k ∷ ks) = within (nearest k stack) ks

abbrev pub is_dot : List ℕ → Bool
is_dot name = bytes_eq name (46 ∷ [])

-- a name in a stack. A dot is the top. Of any other name the first part is looked up in the nearest hash that
-- has it, and each further part in the result of the part before it
unfoldable pub look_up : List ℕ → List Whole → Option Whole
look_up name stack = elim (is_dot name) [ true ↦ top stack | false ↦ dotted stack (parts name) ]

-- null, false and the empty list are falsey
abbrev pub is_truthy : Whole → Bool
is_truthy null = false
is_truthy (boolean b) = b
is_truthy (list no_items) = false
is_truthy _ = true

abbrev pub to_list : Items → List Whole
to_list no_items = []
to_list (item d ds) = d ∷ to_list ds

-- the items of a value: the elements of a list; any other truthy value itself; none if it is falsey
abbrev pub items : Whole → List Whole
items null = []
items (boolean false) = []
items (list ds) = to_list ds
items d = d ∷ []

-- a missing value has no items
abbrev pub items_of : Option Whole → List Whole
items_of None = []
items_of (Some d) = items d
