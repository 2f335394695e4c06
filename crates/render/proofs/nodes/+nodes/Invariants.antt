use Rattle.std.proofs.Common.{◌+◌, ◌*◌, ◌≤◌, [], ◌∷◌, Result, map, drop}
use Rattle.context.specs.View.{data_view}
use Rattle.context.specs.Stack.{stack_of}
use Rattle.mustache_parse.specs.View.{tree_view}
use Rattle.mustache_parse.specs.BlankIndents.{HasBlankIndents}
use Rattle.mustache_parse.specs.Indenting.{AreBlank}
use Rattle.render.specs.Margin.{margin_at}
use Rattle.render.specs.Meaning.{Partials, for_each, meaning_to}
use Rattle.render.specs.Rendering.{Adds}
use Rattle.render.specs.declared.output.Output.{Output}
use Rattle.render.specs.declared.fault.RenderFault.{RenderFault}
use Rattle.render.proofs.nodes.+nodes.Given as goal

-- what may still be paid, with a place for each function that is called before the next charge
abbrev pub decreases-render_nodes : goal.decreases-render_nodes
decreases-render_nodes g l = 3 * l.out.now.left + 2

abbrev pub decreases-render_node : goal.decreases-render_node
decreases-render_node g l = 3 * l.out.now.left + 1

abbrev pub decreases-render_items : goal.decreases-render_items
decreases-render_items g l = 3 * l.out.now.left + 3

abbrev pub decreases-render_where_none : goal.decreases-render_where_none
decreases-render_where_none g l = 3 * l.out.now.left + 3

abbrev pub decreases-render_partial : goal.decreases-render_partial
decreases-render_partial g l = 3 * l.out.now.left + 3

-- what the nodes left add makes up what all nodes add
abbrev pub invariant-render_nodes-loop-node : goal.invariant-render_nodes-loop-node
invariant-render_nodes-loop-node g l = record {
  adds : (texts : Partials) → g.P.Partials.stands l.scope.partials.now texts → AreBlank (margin_at l.scope.margin) → HasBlankIndents (tree_view [] l.nodes) → (new : Output) (r : Result (Unit {0}) RenderFault)
      → Adds l.out new (meaning_to l.scope.depth texts (tree_view (margin_at l.scope.margin) (drop l.node-index l.nodes)) (stack_of l.scope.frame.now)) r
      → Adds l.initial.out new (meaning_to l.scope.depth texts (tree_view (margin_at l.scope.margin) l.nodes) (stack_of l.scope.frame.now)) r;
  spent : l.out.left ≤ l.fn.out.left;
}

-- what the items left add makes up what all items add
abbrev pub invariant-render_items-loop-item : goal.invariant-render_items-loop-item
invariant-render_items-loop-item g l = record {
  adds : (texts : Partials) → g.P.Partials.stands l.scope.partials.now texts → AreBlank (margin_at l.scope.margin) → HasBlankIndents (tree_view [] l.block) → (new : Output) (r : Result (Unit {0}) RenderFault)
      → Adds l.out new (for_each (λ v. meaning_to l.scope.depth texts (tree_view (margin_at l.scope.margin) l.block) (v ∷ stack_of l.scope.frame.now)) (map data_view (drop l.item-index l.pushed))) r
      → Adds l.initial.out new (for_each (λ v. meaning_to l.scope.depth texts (tree_view (margin_at l.scope.margin) l.block) (v ∷ stack_of l.scope.frame.now)) (map data_view l.pushed)) r;
  spent : l.out.left ≤ l.fn.out.left;
}
