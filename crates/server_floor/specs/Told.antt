-- How far records reach, as their operators report it.
use Rattle.std.specs.Prelude.{◌≢◌, ℕ, ◌<◌, ◌^◌, max, map, List, [], ◌∷◌, ◌++◌, decimal}
use Rattle.site_ids.specs.Ids.{IsNode}
use Rattle.site_ids.specs.Lists.{In}
use Rattle.server_floor.specs.declared.told.Told.{Told}

-- it is about a node of some group, and its reach is below 2^64
abbrev pub Fits : Told → Type 0
Fits t = IsNode 9 t.node × (t.reach < 2 ^ 64)

abbrev pub AreFitting : List Told → Type 0
AreFitting told = (t : Told) → In told t → Fits t

-- the node and the reach, with a colon between them
abbrev pub spelled : Told → List ℕ
spelled t = decimal t.node ++ (58 ∷ decimal t.reach)

abbrev pub nodes_of : List Told → List ℕ
nodes_of = map (λ t. t.node)

-- the furthest reach; 0 if there is none
abbrev pub furthest : List Told → ℕ
furthest [] = 0
furthest (t ∷ told) = max t.reach (furthest told)

-- each is about a node of the n, and none is about node p
abbrev pub AreOthers : ℕ → ℕ → List Told → Type 0
AreOthers n p told = (t : Told) → In told t → IsNode n t.node × (t.node ≢ p)
