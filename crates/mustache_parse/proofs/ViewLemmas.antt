-- The tree of nodes, node by node.
use Rattle.std.proofs.Common.{◌≡◌, List, ℕ, Bool, Option, String, Global, Vec, string_bytes, ap, sym, ◌∙◌}
use Rattle.mustache_parse.specs.Tree.{Tree, variable, raw, partial, section, inverted}
use Rattle.mustache_parse.specs.View.{own_under, view_step, node_onto, tree_view}
use Rattle.mustache_parse.specs.declared.node.Node.{Node}
use Rattle.mustache_parse.specs.declared.node.Node.TheFolds.{fold-roll-Node}
use Rattle.mustache_parse.specs.declared.node.Node.TheOpen.{Node-F}
use Rattle.mustache_parse.specs.declared.node.Node.TheVariants.{Text, Variable, Raw, Section, Inverted, Partial, rolls-Text, rolls-Variable, rolls-Raw, rolls-Section, rolls-Inverted, rolls-Partial}
use Rattle.mustache_parse.specs.Margin.{literal_under, text_onto}

module _ (w : List ℕ) where
  -- each kind of node in front of a tree
  pub onto_text : (t : String Global) (leads trails : Bool) → node_onto w (Text t leads trails) ≡ text_onto (literal_under w leads trails (string_bytes t))
  onto_text t leads trails = ap (node_onto w) (sym (rolls-Text t leads trails)) ∙ fold-roll-Node (Tree → Tree) (view_step w) (Node-F.Text t leads trails)

  pub onto_variable : (name : String Global) → node_onto w (Variable name) ≡ variable (string_bytes name)
  onto_variable name = ap (node_onto w) (sym (rolls-Variable name)) ∙ fold-roll-Node (Tree → Tree) (view_step w) (Node-F.Variable name)

  pub onto_raw : (name : String Global) → node_onto w (Raw name) ≡ raw (string_bytes name)
  onto_raw name = ap (node_onto w) (sym (rolls-Raw name)) ∙ fold-roll-Node (Tree → Tree) (view_step w) (Node-F.Raw name)

  pub onto_section : (name : String Global) (block : Vec Node Global) → node_onto w (Section name block) ≡ section (string_bytes name) (tree_view w block.items)
  onto_section name block = ap (node_onto w) (sym (rolls-Section name block)) ∙ fold-roll-Node (Tree → Tree) (view_step w) (Node-F.Section name block)

  pub onto_inverted : (name : String Global) (block : Vec Node Global) → node_onto w (Inverted name block) ≡ inverted (string_bytes name) (tree_view w block.items)
  onto_inverted name block = ap (node_onto w) (sym (rolls-Inverted name block)) ∙ fold-roll-Node (Tree → Tree) (view_step w) (Node-F.Inverted name block)

  pub onto_partial : (name : String Global) (own : Option (String Global)) → node_onto w (Partial name own) ≡ partial (string_bytes name) (own_under w own)
  onto_partial name own = ap (node_onto w) (sym (rolls-Partial name own)) ∙ fold-roll-Node (Tree → Tree) (view_step w) (Node-F.Partial name own)
