-- The tree that the code's nodes stand for under a margin `w`, which is blanks before each line of their
-- text.
use Rattle.std.specs.Prelude.{ℕ, List, [], ◌∷◌, ◌++◌, map, Option, Some, None, String, string_bytes}
use Rattle.std.specs.Global.{Global}
use Rattle.mustache_parse.specs.Margin.{literal_under, text_onto}
use Rattle.mustache_parse.specs.Tree.{Tree, nothing, variable, raw, partial, section, inverted}
use Rattle.mustache_parse.specs.declared.node.Node.{Node, fold-Node}
use Rattle.mustache_parse.specs.declared.node.Node.TheOpen.{Node-F}

-- what each node makes of the rest of its list
abbrev pub joined : List (Tree → Tree) → Tree
joined [] = nothing
joined (n ∷ ns) = n (joined ns)

-- the indentation of a partial: the margin and its own blanks if its tag is standalone, and none if it is not
abbrev pub own_under : List ℕ → Option (String Global) → List ℕ
own_under w None = []
own_under w (Some own) = w ++ string_bytes own

-- a node in front of a tree, with each node of its block already seen so
abbrev pub view_step : List ℕ → Node-F (Tree → Tree) → Tree → Tree
view_step w (Node-F.Text t leads trails) rest = text_onto (literal_under w leads trails (string_bytes t)) rest
view_step w (Node-F.Variable name) rest = variable (string_bytes name) rest
view_step w (Node-F.Raw name) rest = raw (string_bytes name) rest
view_step w (Node-F.Section name block) rest = section (string_bytes name) (joined block.items) rest
view_step w (Node-F.Inverted name block) rest = inverted (string_bytes name) (joined block.items) rest
view_step w (Node-F.Partial name own) rest = partial (string_bytes name) (own_under w own) rest

abbrev pub node_onto : List ℕ → Node → Tree → Tree
node_onto w = fold-Node (Tree → Tree) (view_step w)

abbrev pub tree_view : List ℕ → List Node → Tree
tree_view w ns = joined (map (node_onto w) ns)
