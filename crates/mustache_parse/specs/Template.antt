-- What a template stands for, and which text it was read from.
use Rattle.std.specs.Prelude.{◌≡◌, ℕ, List, [], Ok}
use Rattle.mustache_parse.specs.Indent.{indented}
use Rattle.mustache_parse.specs.Indenting.{AreBlank}
use Rattle.mustache_parse.specs.Tree.{Tree, tree_of}
use Rattle.mustache_parse.specs.View.{tree_view}
use Rattle.mustache_parse.specs.declared.node.Node.{Node}

-- A template as its callers see it: its nodes.
pub record TemplateSeen : Type 0 where
  pub nodes : List Node

-- its tree under a margin; without one it is the tree of its text
abbrev pub template_tree : List ℕ → TemplateSeen → Tree
template_tree w t = tree_view w t.nodes

-- A template of a text: it has the text's tree, and under each margin the tree of the text indented by that
-- margin.
pub record IsTemplateOf (t : TemplateSeen) (x : List ℕ) : Type 0 where
  pub holds : tree_of x ≡ Ok (template_tree [] t)
  pub under : (w : List ℕ) → AreBlank w → tree_of (indented w x) ≡ Ok (template_tree w t)
