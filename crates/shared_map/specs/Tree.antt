-- The entries below a fork.
use Rattle.std.specs.Prelude.{List, [], ◌∷◌, ◌++◌, Option, None, Some}
use Rattle.std.specs.declared.alloc.Global.{Global}
use Rattle.std.specs.declared.rc.Rc.{Rc}
use Rattle.shared_map.specs.declared.tree.Fork.{Fork}

-- the entries on both sides of a fork, and its own between them
abbrev pub entries : {K V : Type 0} → Option (Rc (Fork K V) Global) → List (K × V)
entries None = []
entries (Some rc) = rc.value.left ++ rc.value.entry.value ∷ rc.value.right
