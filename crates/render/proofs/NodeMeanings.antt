-- What each kind of node means, and what nodes and items mean one after another.
use Rattle.std.proofs.Common.{◌≡◌, ℕ, zero, suc, Bool, true, false, nat_eq, arith, ◌+◌, ◌<◌, List, [], ◌∷◌, ◌++◌, map, length, get_or, drop, String, Global, Vec, Option, None, Some, Ok, Bor, string_bytes, refl, sym, ap, ◌∙◌, append-nil, append_assoc, add-one}
use Rattle.std.proofs.Math.Seq.{drop-cons}
use Rattle.std.proofs.lemmas.Bool.Decides.{nat_tests}
use Rattle.context.specs.Whole.{Whole}
use Rattle.context.specs.LookUp.{look_up, items_of}
use Rattle.context.specs.View.{data_view}
use Rattle.context.specs.Stack.{stack_step, stack_of}
use Rattle.context.specs.declared.tree.Data.{Data}
use Rattle.context.specs.declared.look_up.Frame.{Frame, roll-Frame, fold-roll-Frame}
use Rattle.mustache_parse.specs.Indent.{indented}
use Rattle.mustache_parse.specs.Margin.{literal_under, text_onto}
use Rattle.mustache_parse.specs.Tree.{Tree, nothing, tree_of}
use Rattle.mustache_parse.specs.View.{own_under, view_step, node_onto, tree_view}
use Rattle.mustache_parse.specs.declared.node.Node.{Node}
use Rattle.mustache_parse.specs.declared.node.Node.TheOpen.{Node-F}
use Rattle.mustache_parse.specs.declared.node.Node.TheVariants.{Text, Variable, Raw, Section, Inverted, Partial}
use Rattle.mustache_parse.proofs.ViewLemmas.{onto_text, onto_variable, onto_raw, onto_section, onto_inverted, onto_partial}
use Rattle.render.proofs.Blanks.{out_of}
use Rattle.render.specs.Printed.{printed, escaped}
use Rattle.render.specs.Meaning.{Meaning, Over, Costs, Partials, and_then, prints, costs_one, for_each, where_none, of_tree, called, too_deep, meaning_with, meaning_to}
use Rattle.render.specs.Rendering.{called_at}

-- nothing after a meaning changes it
and_nothing : (m : Meaning) → and_then m (Costs [] 0) ≡ m
and_nothing Over = refl
and_nothing (Costs t c) = let same : c + 0 ≡ c = omega arith in ap (λ u. Costs u (c + 0)) (append-nil t) ∙ ap (Costs t) same

abbrev Call : Type 0
Call = (name indent : List ℕ) → List Whole → Meaning

nothing_and : (m : Meaning) → and_then (Costs [] 0) m ≡ m
nothing_and Over = refl
nothing_and (Costs t c) = let same : 0 + c ≡ c = omega arith in ap (Costs t) same

-- a text that is there or not
text-printed : (call : Call) (l : List ℕ) (rest : Tree) (stack : List Whole) → meaning_with call (text_onto l rest) stack ≡ and_then (prints l) (meaning_with call rest stack)
unfolding meaning_with
text-printed call [] rest stack = sym (nothing_and (meaning_with call rest stack))
text-printed call (b ∷ bs) rest stack = refl

-- ---- one node, and then the rest

layer_first : (w : List ℕ) (call : Call) (f : Node-F (Tree → Tree)) (rest : Tree) (stack : List Whole)
    → meaning_with call (view_step w f rest) stack ≡ and_then (meaning_with call (view_step w f nothing) stack) (meaning_with call rest stack)
unfolding meaning_with
layer_first w call (Node-F.Text t leads trails) rest stack =
    let l = literal_under w leads trails (string_bytes t) in
    text-printed call l rest stack ∙ ap (λ m. and_then m (meaning_with call rest stack)) (sym (text-printed call l nothing stack ∙ and_nothing (prints l)))
layer_first w call (Node-F.Variable name) rest stack =
    ap (λ m. and_then m (meaning_with call rest stack)) (sym (and_nothing (and_then costs_one (prints (escaped (printed (look_up (string_bytes name) stack)))))))
layer_first w call (Node-F.Raw name) rest stack = ap (λ m. and_then m (meaning_with call rest stack)) (sym (and_nothing (and_then costs_one (prints (printed (look_up (string_bytes name) stack))))))
layer_first w call (Node-F.Section name block) rest stack = ap (λ m. and_then m (meaning_with call rest stack)) (sym (and_nothing _))
layer_first w call (Node-F.Inverted name block) rest stack = ap (λ m. and_then m (meaning_with call rest stack)) (sym (and_nothing _))
layer_first w call (Node-F.Partial name own) rest stack = ap (λ m. and_then m (meaning_with call rest stack)) (sym (and_nothing _))

node_first : (w : List ℕ) (call : Call) (n : Node) (rest : Tree) (stack : List Whole)
    → meaning_with call (node_onto w n rest) stack ≡ and_then (meaning_with call (node_onto w n nothing) stack) (meaning_with call rest stack)
node_first w call n rest stack =
    let opened = out_of (Tree → Tree) (view_step w) n in
    ap (λ f. meaning_with call (f rest) stack) opened.1
    ∙ layer_first w call opened.0 rest stack
    ∙ ap (λ f. and_then (meaning_with call (f nothing) stack) (meaning_with call rest stack)) (sym opened.1)

-- ---- the same, where some partials may nest

abbrev call_of : ℕ → Partials → Call
call_of n texts = λ name indent s. called_at n texts name indent s

pub meaning_to-is : (n : ℕ) (texts : Partials) (t : Tree) (stack : List Whole) → meaning_to n texts t stack ≡ meaning_with (call_of n texts) t stack
unfolding meaning_to
meaning_to-is zero texts t stack = refl
meaning_to-is (suc n) texts t stack = refl

node_then : (w : List ℕ) (n : ℕ) (texts : Partials) (node : Node) (rest : Tree) (stack : List Whole)
    → meaning_to n texts (node_onto w node rest) stack ≡ and_then (meaning_to n texts (node_onto w node nothing) stack) (meaning_to n texts rest stack)
node_then w n texts node rest stack =
    meaning_to-is n texts (node_onto w node rest) stack ∙ node_first w (call_of n texts) node rest stack
    ∙ ap (λ m. and_then m (meaning_with (call_of n texts) rest stack)) (sym (meaning_to-is n texts (node_onto w node nothing) stack))
    ∙ ap (and_then (meaning_to n texts (node_onto w node nothing) stack)) (sym (meaning_to-is n texts rest stack))

-- the nodes from a place on are the node there and those after it
pub nodes_drop : (w : List ℕ) (n : ℕ) (texts : Partials) (ns : List Node) (i : ℕ) (node : Node) (stack : List Whole) → i < length ns → node ≡ get_or ns i node
    → meaning_to n texts (tree_view w (drop i ns)) stack ≡ and_then (meaning_to n texts (node_onto w node nothing) stack) (meaning_to n texts (tree_view w (drop (i + 1) ns)) stack)
nodes_drop w n texts ns i node stack within is =
    ap (λ xs. meaning_to n texts (tree_view w xs) stack) (drop-cons ns i node within)
    ∙ ap (λ x. meaning_to n texts (node_onto w x (tree_view w (drop (suc i) ns))) stack) (sym is)
    ∙ node_then w n texts node (tree_view w (drop (suc i) ns)) stack
    ∙ ap (λ k. and_then (meaning_to n texts (node_onto w node nothing) stack) (meaning_to n texts (tree_view w (drop k ns)) stack)) (sym (add-one i))

pub nodes_none : (w : List ℕ) (n : ℕ) (texts : Partials) (ns : List Node) (stack : List Whole) → ns ≡ [] → meaning_to n texts (tree_view w ns) stack ≡ Costs [] 0
unfolding meaning_with
nodes_none w n texts ns stack none = ap (λ xs. meaning_to n texts (tree_view w xs) stack) none ∙ meaning_to-is n texts nothing stack

-- a meaning after two others
and_then-assoc : (l m n : Meaning) → and_then (and_then l m) n ≡ and_then l (and_then m n)
and_then-assoc Over m n = refl
and_then-assoc (Costs t c) Over n = refl
and_then-assoc (Costs t c) (Costs u d) Over = refl
and_then-assoc (Costs t c) (Costs u d) (Costs v e) =
    let sums : c + d + e ≡ c + (d + e) = omega arith in
    ap (λ x. Costs x (c + d + e)) (append_assoc t u v) ∙ ap (Costs (t ++ (u ++ v))) sums

-- and so the items: the next one is pushed, then its block is printed, then the others
pub items_first : (f : Whole → Meaning) (vs : List Data) (i : ℕ) (v : Data) → i < length vs → v ≡ get_or vs i v
    → for_each f (map data_view (drop i vs)) ≡ and_then costs_one (and_then (f (data_view v)) (for_each f (map data_view (drop (i + 1) vs))))
items_first f vs i v within is =
    ap (λ xs. for_each f (map data_view xs)) (drop-cons vs i v within)
    ∙ ap (λ x. and_then (and_then costs_one (f (data_view x))) (for_each f (map data_view (drop (suc i) vs)))) (sym is)
    ∙ ap (λ k. and_then (and_then costs_one (f (data_view v))) (for_each f (map data_view (drop k vs)))) (sym (add-one i))
    ∙ and_then-assoc costs_one (f (data_view v)) (for_each f (map data_view (drop (i + 1) vs)))

pub items_none : (f : Whole → Meaning) (vs : List Data) → vs ≡ [] → for_each f (map data_view vs) ≡ Costs [] 0
items_none f vs none = ap (λ xs. for_each f (map data_view xs)) none

-- ---- each kind of node

for_each_same : (f g : Whole → Meaning) → ((v : Whole) → f v ≡ g v) → (vs : List Whole) → for_each f vs ≡ for_each g vs
for_each_same f g same [] = refl
for_each_same f g same (v ∷ vs) = ap (λ m. and_then (and_then costs_one m) (for_each f vs)) (same v) ∙ ap (and_then (and_then costs_one (g v))) (for_each_same f g same vs)

of_kind : (w : List ℕ) (n : ℕ) (texts : Partials) (node : Node) (onto : Tree → Tree) (stack : List Whole) → node_onto w node ≡ onto
    → meaning_to n texts (node_onto w node nothing) stack ≡ meaning_with (call_of n texts) (onto nothing) stack
of_kind w n texts node onto stack is = ap (λ f. meaning_to n texts (f nothing) stack) is ∙ meaning_to-is n texts (onto nothing) stack

pub is_text : (w : List ℕ) (n : ℕ) (texts : Partials) (node : Node) (t : String Global) (leads trails : Bool) (key : List ℕ) (stack : List Whole) → node ≡ Text t leads trails → key ≡ string_bytes t
    → meaning_to n texts (node_onto w node nothing) stack ≡ prints (literal_under w leads trails key)
unfolding meaning_with
is_text w n texts node t leads trails key stack is named =
    rw (is, named) (of_kind w n texts (Text t leads trails) _ stack (onto_text w t leads trails) ∙ text-printed (call_of n texts) (literal_under w leads trails (string_bytes t)) nothing stack ∙ and_nothing _)

pub is_variable : (w : List ℕ) (n : ℕ) (texts : Partials) (node : Node) (name : String Global) (key : List ℕ) (stack : List Whole) → node ≡ Variable name → key ≡ string_bytes name
    → meaning_to n texts (node_onto w node nothing) stack ≡ and_then costs_one (prints (escaped (printed (look_up key stack))))
unfolding meaning_with
is_variable w n texts node name key stack is named = rw (is, named) (of_kind w n texts (Variable name) _ stack (onto_variable w name) ∙ and_nothing _)

pub is_raw : (w : List ℕ) (n : ℕ) (texts : Partials) (node : Node) (name : String Global) (key : List ℕ) (stack : List Whole) → node ≡ Raw name → key ≡ string_bytes name
    → meaning_to n texts (node_onto w node nothing) stack ≡ and_then costs_one (prints (printed (look_up key stack)))
unfolding meaning_with
is_raw w n texts node name key stack is named = rw (is, named) (of_kind w n texts (Raw name) _ stack (onto_raw w name) ∙ and_nothing _)

-- what follows the cost of a section's tag, and of an inverted section's
abbrev pub after_section : List ℕ → ℕ → Partials → List Node → List Whole → List Whole → Meaning
after_section w n texts ns vs stack = for_each (λ v. meaning_to n texts (tree_view w ns) (v ∷ stack)) vs

abbrev pub after_inverted : List ℕ → ℕ → Partials → List Node → List Whole → List Whole → Meaning
after_inverted w n texts ns vs stack = where_none (meaning_to n texts (tree_view w ns) stack) vs

pub is_section : (w : List ℕ) (n : ℕ) (texts : Partials) (node : Node) (name : String Global) (block : Vec Node Global) (ns : List Node) (vs : List Whole) (stack : List Whole)
    → node ≡ Section name block → ns ≡ block.items → vs ≡ items_of (look_up (string_bytes name) stack)
    → meaning_to n texts (node_onto w node nothing) stack ≡ and_then costs_one (after_section w n texts ns vs stack)
unfolding meaning_with
is_section w n texts node name block ns vs stack is blocks found =
    rw (is, blocks, found)
    (of_kind w n texts (Section name block) _ stack (onto_section w name block) ∙ and_nothing _
    ∙ ap (and_then costs_one) (for_each_same _ _ (λ v. sym (meaning_to-is n texts (tree_view w block.items) (v ∷ stack))) (items_of (look_up (string_bytes name) stack))))

pub is_inverted : (w : List ℕ) (n : ℕ) (texts : Partials) (node : Node) (name : String Global) (block : Vec Node Global) (ns : List Node) (vs : List Whole) (stack : List Whole)
    → node ≡ Inverted name block → ns ≡ block.items → vs ≡ items_of (look_up (string_bytes name) stack)
    → meaning_to n texts (node_onto w node nothing) stack ≡ and_then costs_one (after_inverted w n texts ns vs stack)
unfolding meaning_with
is_inverted w n texts node name block ns vs stack is blocks found =
    rw (is, blocks, found)
    (of_kind w n texts (Inverted name block) _ stack (onto_inverted w name block) ∙ and_nothing _
    ∙ ap (λ m. and_then costs_one (where_none m (items_of (look_up (string_bytes name) stack)))) (sym (meaning_to-is n texts (tree_view w block.items) stack)))

pub is_partial : (w : List ℕ) (n : ℕ) (texts : Partials) (node : Node) (name : String Global) (own : Option (String Global)) (key : List ℕ) (stack : List Whole)
    → node ≡ Partial name own → key ≡ string_bytes name
    → meaning_to n texts (node_onto w node nothing) stack ≡ and_then costs_one (called_at n texts key (own_under w own) stack)
unfolding meaning_with
is_partial w n texts node name own key stack is named =
    rw (is, named) (of_kind w n texts (Partial name own) _ stack (onto_partial w name own) ∙ and_nothing _)

-- a partial that is there means the tree of its text indented, where one more may nest
pub called-there : (n : ℕ) (texts : Partials) (name blanks text : List ℕ) (tree : Tree) (stack : List Whole) → texts name ≡ Some text → tree_of (indented blanks text) ≡ Ok tree
    → called_at (suc n) texts name blanks stack ≡ meaning_to n texts tree stack
called-there n texts name blanks text tree stack there holds = ap (λ t. called (meaning_to n texts) t blanks stack) there ∙ ap (of_tree (λ tree. meaning_to n texts tree stack)) holds

pub called-too_deep : (texts : Partials) (name blanks text : List ℕ) (tree : Tree) (stack : List Whole) → texts name ≡ Some text → tree_of (indented blanks text) ≡ Ok tree
    → called_at 0 texts name blanks stack ≡ Over
called-too_deep texts name blanks text tree stack there holds = ap (λ t. called too_deep t blanks stack) there ∙ ap (of_tree (λ tree. too_deep tree stack)) holds

pub called-missing : (n : ℕ) (texts : Partials) (name blanks : List ℕ) (stack : List Whole) → texts name ≡ None → called_at n texts name blanks stack ≡ Costs [] 0
called-missing zero texts name blanks stack none = ap (λ t. called too_deep t blanks stack) none
called-missing (suc n) texts name blanks stack none = ap (λ t. called (meaning_to n texts) t blanks stack) none

-- an inverted section's block stands for no item, and nothing for some
pub where_none-empty : (m : Meaning) (ds : List Data) → nat_eq (length ds) 0 ≡ true → where_none m (map data_view ds) ≡ m
where_none-empty m [] h = refl
where_none-empty m (d ∷ ds) h = absurd (grind (arith, nat_tests))

pub where_none-some : (m : Meaning) (ds : List Data) → nat_eq (length ds) 0 ≡ false → where_none m (map data_view ds) ≡ Costs [] 0
where_none-some m [] h = absurd (grind (arith, nat_tests))
where_none-some m (d ∷ ds) h = refl

-- ---- the stack

-- a frame on another
pub stack_of-pushed : (d : Bor Data) (below : Bor Frame) → stack_of (roll-Frame (record { «data» = d; below = Some below })) ≡ data_view d.now ∷ stack_of below.now
stack_of-pushed d below = fold-roll-Frame (List Whole) stack_step _
