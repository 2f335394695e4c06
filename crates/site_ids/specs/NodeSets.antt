-- A set of nodes: whether each node p is one of them, at the place p - 1 of nine.
use Rattle.std.specs.Prelude.{◌≡◌, ℕ, suc, ◌-◌, ◌<◌, List, [], ◌∷◌, replicate, get_or, set, Bool, true, false}
use Rattle.std.specs.Prelude.{◌||◌}

abbrev pub no_nodes : List Bool
no_nodes = replicate 9 false

-- with node p
abbrev pub with_node : List Bool → ℕ → List Bool
with_node nodes p = set nodes (p - 1) true

-- node p is one of them
abbrev pub has_node : List Bool → ℕ → Bool
has_node nodes p = get_or nodes (p - 1) false

-- how many nodes the set has
abbrev pub count_of : List Bool → ℕ
count_of [] = 0
count_of (true ∷ nodes) = suc (count_of nodes)
count_of (false ∷ nodes) = count_of nodes

-- the nodes of either set
abbrev pub AreUnited : List Bool → List Bool → List Bool → Type 0
AreUnited some others all =
    (i : ℕ) → i < 9 → get_or all i false ≡ (get_or some i false || get_or others i false)
