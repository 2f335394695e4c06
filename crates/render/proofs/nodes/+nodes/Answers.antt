use Rattle.std.proofs.Common.{◌≡◌, ℕ, List, ◌+◌, ◌<◌, [], ◌∷◌, Ok, Err, map, drop, length, string_bytes, sym, refl, subst, ◌∙◌, arith}
use Rattle.std.proofs.Math.ListN.{drop_of_length-le}
use Rattle.context.specs.LookUp.{items_of, look_up}
use Rattle.context.specs.View.{data_view}
use Rattle.context.specs.Stack.{stack_of}
use Rattle.context.specs.Whole.{Whole}
use Rattle.mustache_parse.specs.Tree.{nothing}
use Rattle.mustache_parse.specs.View.{node_onto, tree_view, own_under}
use Rattle.render.specs.Margin.{margin_at}
use Rattle.render.proofs.Blanks.{node-blank, section-blank, inverted-blank, partial-blank}
use Rattle.render.specs.Meaning.{Meaning, Costs, costs_one, and_then, for_each, meaning_to}
use Rattle.render.specs.Rendering.{Adds, IsPaid, called_at}
use Rattle.render.proofs.Rendered.{first_fails, first_paid, adds_same, adds_nothing}
use Rattle.render.proofs.NodeMeanings.{nodes_drop, nodes_none, items_first, items_none, is_text, is_variable, is_raw, after_section, is_section, after_inverted, is_inverted, is_partial, where_none-empty, where_none-some, stack_of-pushed}
use Rattle.render.proofs.nodes.+nodes.Goals as goal

-- ---- one node

pub render_node-returns-in-Text-clause-adds : goal.render_node-returns-in-Text-clause-adds
render_node-returns-in-Text-clause-adds g t c texts stands blank indents =
    let stack = stack_of c.args.scope.now.frame.now in
    let w = margin_at c.args.scope.now.margin in
    adds_same c.args.out.now c.print_text.new.out _ _ _ (is_text w c.args.scope.now.depth texts c.args.node.now c.in-Text.text c.in-Text.leads c.in-Text.trails c.as_str.result.now stack c.in-Text.is c.as_str.ensures.value) c.print_text.ensures

pub render_node-returns-in-Variable-clause-adds : goal.render_node-returns-in-Variable-clause-adds
render_node-returns-in-Variable-clause-adds g t c texts stands blank indents =
    let stack = stack_of c.args.scope.now.frame.now in
    let w = margin_at c.args.scope.now.margin in
    adds_same c.args.out.now c.render_variable.new.out _ _ _ (is_variable w c.args.scope.now.depth texts c.args.node.now c.in-Variable.name c.as_str-in-Variable.result.now stack c.in-Variable.is c.as_str-in-Variable.ensures.value) c.render_variable.ensures

pub render_node-returns-in-Raw-clause-adds : goal.render_node-returns-in-Raw-clause-adds
render_node-returns-in-Raw-clause-adds g t c texts stands blank indents =
    let stack = stack_of c.args.scope.now.frame.now in
    let w = margin_at c.args.scope.now.margin in
    adds_same c.args.out.now c.render_raw.new.out _ _ _ (is_raw w c.args.scope.now.depth texts c.args.node.now c.in-Raw.name c.as_str-in-Raw.result.now stack c.in-Raw.is c.as_str-in-Raw.ensures.value) c.render_raw.ensures

pub render_node-returns-in_err-charge-in-Section-clause-adds : goal.render_node-returns-in_err-charge-in-Section-clause-adds
render_node-returns-in_err-charge-in-Section-clause-adds g t c texts stands blank indents =
    let n = c.args.scope.now.depth in
    let stack = stack_of c.args.scope.now.frame.now in
    let w = margin_at c.args.scope.now.margin in
    let s = c.in-Section in
    let vs = items_of (look_up (string_bytes s.name) stack) in
    first_fails c.args.out.now c.charge.new.self _ costs_one (after_section w n texts s.block.items vs stack) _ _
    (is_section w n texts c.args.node.now s.name s.block s.block.items vs stack s.is refl refl) c.in_err-charge-in-Section.ensures c.from_residual.ensures.1

pub render_node-returns-in_ok-charge-in-Section-clause-adds : goal.render_node-returns-in_ok-charge-in-Section-clause-adds
render_node-returns-in_ok-charge-in-Section-clause-adds g t c texts stands blank indents =
    let n = c.args.scope.now.depth in
    let stack = stack_of c.args.scope.now.frame.now in
    let w = margin_at c.args.scope.now.margin in
    let s = c.in-Section in
    let block = c.deref.result.now in
    let vs = map data_view c.items_named-pushed.result.now in
    let found = subst (λ (key : List ℕ). vs ≡ items_of (look_up key stack)) c.as_str-in-Section.ensures.value c.items_named-pushed.ensures in
    first_paid c.args.out.now c.charge.new.self c.render_items.new.out _ costs_one (after_section w n texts block vs stack) _
    (is_section w n texts c.args.node.now s.name s.block block vs stack s.is c.deref.ensures.value found) c.in_ok-charge-in-Section.ensures (c.render_items.ensures.adds texts stands blank (section-blank c.args.node.now s.name s.block block s.is c.deref.ensures.value indents))

pub render_node-returns-in_err-charge-in-Inverted-clause-adds : goal.render_node-returns-in_err-charge-in-Inverted-clause-adds
render_node-returns-in_err-charge-in-Inverted-clause-adds g t c texts stands blank indents =
    let n = c.args.scope.now.depth in
    let stack = stack_of c.args.scope.now.frame.now in
    let w = margin_at c.args.scope.now.margin in
    let s = c.in-Inverted in
    let vs = items_of (look_up (string_bytes s.name) stack) in
    first_fails c.args.out.now c.charge-in-Inverted.new.self _ costs_one (after_inverted w n texts s.block.items vs stack) _ _
    (is_inverted w n texts c.args.node.now s.name s.block s.block.items vs stack s.is refl refl) c.in_err-charge-in-Inverted.ensures c.from_residual-in_err-charge-in-Inverted.ensures.1

pub render_node-returns-in_ok-charge-in-Inverted-clause-adds : goal.render_node-returns-in_ok-charge-in-Inverted-clause-adds
render_node-returns-in_ok-charge-in-Inverted-clause-adds g t c texts stands blank indents =
    let n = c.args.scope.now.depth in
    let stack = stack_of c.args.scope.now.frame.now in
    let w = margin_at c.args.scope.now.margin in
    let s = c.in-Inverted in
    let block = c.deref-in-Inverted.result.now in
    let vs = map data_view c.items_named-found.result.now in
    let found = subst (λ (key : List ℕ). vs ≡ items_of (look_up key stack)) c.as_str-in-Inverted.ensures.value c.items_named-found.ensures in
    first_paid c.args.out.now c.charge-in-Inverted.new.self c.render_where_none.new.out _ costs_one (after_inverted w n texts block vs stack) _
    (is_inverted w n texts c.args.node.now s.name s.block block vs stack s.is c.deref-in-Inverted.ensures.value found) c.in_ok-charge-in-Inverted.ensures (c.render_where_none.ensures.adds texts stands blank (inverted-blank c.args.node.now s.name s.block block s.is c.deref-in-Inverted.ensures.value indents))

pub render_node-returns-in_err-charge-in-Partial-clause-adds : goal.render_node-returns-in_err-charge-in-Partial-clause-adds
render_node-returns-in_err-charge-in-Partial-clause-adds g t c texts stands blank indents =
    let n = c.args.scope.now.depth in
    let stack = stack_of c.args.scope.now.frame.now in
    let w = margin_at c.args.scope.now.margin in
    let s = c.in-Partial in
    first_fails c.args.out.now c.charge-in-Partial.new.self _ costs_one (called_at n texts (string_bytes s.name) (own_under w s.own) stack) _ _
    (is_partial w n texts c.args.node.now s.name s.own (string_bytes s.name) stack s.is refl) c.in_err-charge-in-Partial.ensures c.from_residual-in_err-charge-in-Partial.ensures.1

pub render_node-returns-in_ok-charge-in-Partial-clause-adds : goal.render_node-returns-in_ok-charge-in-Partial-clause-adds
render_node-returns-in_ok-charge-in-Partial-clause-adds g t c texts stands blank indents =
    let n = c.args.scope.now.depth in
    let stack = stack_of c.args.scope.now.frame.now in
    let w = margin_at c.args.scope.now.margin in
    let s = c.in-Partial in
    let name = c.as_str-in-Partial.result.now in
    first_paid c.args.out.now c.charge-in-Partial.new.self c.render_partial.new.out _ costs_one (called_at n texts name (own_under w s.own) stack) _
    (is_partial w n texts c.args.node.now s.name s.own name stack s.is c.as_str-in-Partial.ensures.value)
    c.in_ok-charge-in-Partial.ensures (c.render_partial.ensures.adds texts stands blank (partial-blank w c.args.node.now s.name s.own s.is blank indents))

-- ---- nodes, one after another

pub render_nodes-returns-in_err-render_node-clause-adds : goal.render_nodes-returns-in_err-render_node-clause-adds
render_nodes-returns-in_err-render_node-clause-adds g t c texts stands blank indents =
    let n = c.args.scope.now.depth in
    let stack = stack_of c.args.scope.now.frame.now in
    let w = margin_at c.args.scope.now.margin in
    let i = c.loop-node.node-index in
    let node = c.node-item.result in
    let later = meaning_to n texts (tree_view w (drop (i + 1) c.args.nodes.now)) stack in
    c.loop-node.invariant.adds texts stands blank indents c.render_node.new.out _
    (first_fails c.loop-node.out c.render_node.new.out _ (meaning_to n texts (node_onto w node nothing) stack) later _ _
    (nodes_drop w n texts c.args.nodes.now i node stack (omega arith) c.node-item.is) (c.in_err-render_node.ensures.adds texts stands blank (node-blank c.args.nodes.now i _ node indents (omega arith) c.node-item.is)) c.from_residual.ensures.1)

pub render_nodes-loop-node-preserved : goal.render_nodes-loop-node-preserved
render_nodes-loop-node-preserved g t c =
    let n = c.args.scope.now.depth in
    let stack = stack_of c.args.scope.now.frame.now in
    let w = margin_at c.args.scope.now.margin in
    let i = c.loop-node.node-index in
    let node = c.node-item.result in
    let within : i < length c.args.nodes.now = omega arith in
    record {
      adds = λ texts stands blank indents new r h.
          c.loop-node.invariant.adds texts stands blank indents new r
          (first_paid c.loop-node.out c.render_node.new.out new _ (meaning_to n texts (node_onto w node nothing) stack) (meaning_to n texts (tree_view w (drop (i + 1) c.args.nodes.now)) stack) r
          (nodes_drop w n texts c.args.nodes.now i node stack within c.node-item.is) (c.in_ok-render_node.ensures.adds texts stands blank (node-blank c.args.nodes.now i _ node indents (omega arith) c.node-item.is)) h);
      spent = omega (arith, c.in_ok-render_node.ensures.spent, c.loop-node.invariant.spent);
    }

pub render_nodes-returns-clause-adds : goal.render_nodes-returns-clause-adds
render_nodes-returns-clause-adds g t c texts stands blank indents =
    let none : drop c.loop-node.node-index c.args.nodes.now ≡ [] = drop_of_length-le c.args.nodes.now (omega arith) in
    c.loop-node.invariant.adds texts stands blank indents c.loop-node.out (Ok tt)
    (adds_same c.loop-node.out c.loop-node.out _ (Costs [] 0) (Ok tt) (nodes_none (margin_at c.args.scope.now.margin) c.args.scope.now.depth texts _ (stack_of c.args.scope.now.frame.now) none) (adds_nothing c.loop-node.out))

-- ---- items, one after another

pub render_items-returns-in_err-charge-clause-adds : goal.render_items-returns-in_err-charge-clause-adds
render_items-returns-in_err-charge-clause-adds g t c texts stands blank indents =
    let stack = stack_of c.args.scope.now.frame.now in
    let w = margin_at c.args.scope.now.margin in
    let f : Whole → Meaning = λ v. meaning_to c.args.scope.now.depth texts (tree_view (margin_at c.args.scope.now.margin) c.args.block.now) (v ∷ stack) in
    let i = c.loop-item.item-index in
    let v = c.item-item.result in
    let later = and_then (f (data_view v)) (for_each f (map data_view (drop (i + 1) c.args.pushed.now))) in
    c.loop-item.invariant.adds texts stands blank indents c.charge.new.self _
    (first_fails c.loop-item.out c.charge.new.self _ costs_one later _ _ (items_first f c.args.pushed.now i v (omega arith) c.item-item.is) c.in_err-charge.ensures c.from_residual.ensures.1)

pub render_items-returns-in_err-render_nodes-clause-adds : goal.render_items-returns-in_err-render_nodes-clause-adds
render_items-returns-in_err-render_nodes-clause-adds g t c texts stands blank indents =
    let stack = stack_of c.args.scope.now.frame.now in
    let w = margin_at c.args.scope.now.margin in
    let f : Whole → Meaning = λ v. meaning_to c.args.scope.now.depth texts (tree_view (margin_at c.args.scope.now.margin) c.args.block.now) (v ∷ stack) in
    let i = c.loop-item.item-index in
    let v = c.item-item.result in
    let here = f (data_view v) in
    let later = for_each f (map data_view (drop (i + 1) c.args.pushed.now)) in
    let old = c.charge.new.self in
    let new = c.render_nodes.new.out in
    let failed : Adds old new here (Err c.in_err-render_nodes.field-0.0) =
    subst (λ s. Adds old new (meaning_to c.args.scope.now.depth texts (tree_view (margin_at c.args.scope.now.margin) c.args.block.now) s) (Err c.in_err-render_nodes.field-0.0)) (stack_of-pushed _ c.args.scope.now.frame) (c.in_err-render_nodes.ensures.adds texts stands blank indents) in
    c.loop-item.invariant.adds texts stands blank indents new _
    (first_paid c.loop-item.out old new _ costs_one (and_then here later) _ (items_first f c.args.pushed.now i v (omega arith) c.item-item.is) c.in_ok-charge.ensures
    (first_fails old new _ here later _ _ refl failed c.from_residual-in_err-render_nodes.ensures.1))

pub render_items-loop-item-preserved : goal.render_items-loop-item-preserved
render_items-loop-item-preserved g t c =
    let stack = stack_of c.args.scope.now.frame.now in
    let w = margin_at c.args.scope.now.margin in
    let i = c.loop-item.item-index in
    let v = c.item-item.result in
    let within : i < length c.args.pushed.now = omega arith in
    let mid = c.charge.new.self in
    let next = c.render_nodes.new.out in
    record {
      adds = λ texts stands blank indents new r h.
          let f : Whole → Meaning = λ v. meaning_to c.args.scope.now.depth texts (tree_view (margin_at c.args.scope.now.margin) c.args.block.now) (v ∷ stack) in
          let here = f (data_view v) in
          let later = for_each f (map data_view (drop (i + 1) c.args.pushed.now)) in
          let paid : IsPaid mid next here =
          subst (λ s. IsPaid mid next (meaning_to c.args.scope.now.depth texts (tree_view (margin_at c.args.scope.now.margin) c.args.block.now) s)) (stack_of-pushed _ c.args.scope.now.frame) (c.in_ok-render_nodes.ensures.adds texts stands blank indents) in
          c.loop-item.invariant.adds texts stands blank indents new r
          (first_paid c.loop-item.out mid new _ costs_one (and_then here later) r (items_first f c.args.pushed.now i v within c.item-item.is) c.in_ok-charge.ensures
          (first_paid mid next new _ here later r refl paid h));
      spent = omega (arith, c.in_ok-charge.ensures, c.in_ok-render_nodes.ensures.spent, c.loop-item.invariant.spent);
    }

pub render_items-returns-clause-adds : goal.render_items-returns-clause-adds
render_items-returns-clause-adds g t c texts stands blank indents =
    let none : drop c.loop-item.item-index c.args.pushed.now ≡ [] = drop_of_length-le c.args.pushed.now (omega arith) in
    let f : Whole → Meaning = λ v. meaning_to c.args.scope.now.depth texts (tree_view (margin_at c.args.scope.now.margin) c.args.block.now) (v ∷ stack_of c.args.scope.now.frame.now) in
    c.loop-item.invariant.adds texts stands blank indents c.loop-item.out (Ok tt)
    (adds_same c.loop-item.out c.loop-item.out _ (Costs [] 0) (Ok tt) (items_none f _ none) (adds_nothing c.loop-item.out))

-- ---- where there is no item

pub render_where_none-returns-then-is_empty-clause-adds : goal.render_where_none-returns-then-is_empty-clause-adds
render_where_none-returns-then-is_empty-clause-adds g t c texts stands blank indents =
    adds_same c.args.out.now c.render_nodes.new.out _ _ _
    (where_none-empty (meaning_to c.args.scope.now.depth texts (tree_view (margin_at c.args.scope.now.margin) c.args.block.now) (stack_of c.args.scope.now.frame.now)) c.args.found.now (sym c.is_empty.ensures ∙ c.if-is_empty.true)) (c.render_nodes.ensures.adds texts stands blank indents)

pub render_where_none-returns-else-is_empty-clause-adds : goal.render_where_none-returns-else-is_empty-clause-adds
render_where_none-returns-else-is_empty-clause-adds g t c texts stands blank indents =
    adds_same c.args.out.now c.args.out.now _ _ (Ok tt)
    (where_none-some (meaning_to c.args.scope.now.depth texts (tree_view (margin_at c.args.scope.now.margin) c.args.block.now) (stack_of c.args.scope.now.frame.now)) c.args.found.now (sym c.is_empty.ensures ∙ c.if-is_empty.false)) (adds_nothing c.args.out.now)
