-- What is before a partial of a tree, on its line.
use Rattle.std.specs.Prelude.{◌≡◌, ℕ, List, Ok}
use Rattle.mustache_parse.specs.Indenting.{AreBlank}
use Rattle.mustache_parse.specs.Tree.{Tree, nothing, text, variable, raw, partial, section, inverted, tree_of}

-- each partial is indented by spaces and tabs only
abbrev pub HasBlankIndents : Tree → Type 0
HasBlankIndents nothing = Unit {0}
HasBlankIndents (text t rest) = HasBlankIndents rest
HasBlankIndents (variable name rest) = HasBlankIndents rest
HasBlankIndents (raw name rest) = HasBlankIndents rest
HasBlankIndents (partial name indent rest) = AreBlank indent × HasBlankIndents rest
HasBlankIndents (section name block rest) = HasBlankIndents block × HasBlankIndents rest
HasBlankIndents (inverted name block rest) = HasBlankIndents block × HasBlankIndents rest

abbrev pub IndentsAreBlank : Type 0
IndentsAreBlank = (t : List ℕ) (tree : Tree) → tree_of t ≡ Ok tree → HasBlankIndents tree
