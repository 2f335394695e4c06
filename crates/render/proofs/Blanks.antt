-- What is indented by blanks in a tree is so in its parts.
use Rattle.std.proofs.Common.{◌≡◌, ℕ, ◌<◌, zero, suc, ◌&&◌, List, [], ◌∷◌, length, get_or, Option, Some, None, String, Global, Vec, string_bytes, refl, sym, ap, subst, ◌∙◌, arith}
use Rattle.std.proofs.lemmas.List.Folds.{list_all-append}
use Rattle.std.specs.List.{list_all}
use Rattle.mustache_scan.specs.Cutting.{is_blank}
use Rattle.mustache_parse.specs.BlankIndents.{HasBlankIndents}
use Rattle.mustache_parse.specs.Indenting.{AreBlank}
use Rattle.mustache_parse.specs.Margin.{text_onto, literal_under}
use Rattle.mustache_parse.specs.Tree.{Tree, nothing}
use Rattle.mustache_parse.specs.View.{own_under, view_step, node_onto, tree_view}
use Rattle.mustache_parse.specs.declared.node.Node.{Node, fold-Node}
use Rattle.mustache_parse.specs.declared.node.Node.TheFolds.{fold_out-Node}
use Rattle.mustache_parse.specs.declared.node.Node.TheOpen.{Node-F}
use Rattle.mustache_parse.specs.declared.node.Node.TheVariants.{Section, Inverted, Partial}
use Rattle.mustache_parse.proofs.ViewLemmas.{onto_section, onto_inverted, onto_partial}

-- a node as its folds see it
pub out_of : (A : Type 0) (step : Node-F A → A) (n : Node) → (f : Node-F A) × (fold-Node A step n ≡ step f)
out_of A step n = (_, fold_out-Node A step n)

text-rest : (l : List ℕ) (rest : Tree) → HasBlankIndents (text_onto l rest) → HasBlankIndents rest
text-rest [] rest h = h
text-rest (b ∷ bs) rest h = h

text-none : (l : List ℕ) → HasBlankIndents (text_onto l nothing)
text-none [] = tt
text-none (b ∷ bs) = tt

layer-both : (f : Node-F (Tree → Tree)) (rest : Tree) → HasBlankIndents (view_step [] f rest) → HasBlankIndents (view_step [] f nothing) × HasBlankIndents rest
layer-both (Node-F.Text t leads trails) rest h = (text-none (literal_under [] leads trails (string_bytes t)), text-rest (literal_under [] leads trails (string_bytes t)) rest h)
layer-both (Node-F.Variable name) rest h = (tt, h)
layer-both (Node-F.Raw name) rest h = (tt, h)
layer-both (Node-F.Section name block) rest h = ((h.0, tt), h.1)
layer-both (Node-F.Inverted name block) rest h = ((h.0, tt), h.1)
layer-both (Node-F.Partial name own) rest h = ((h.0, tt), h.1)

node-both : (n : Node) (rest : Tree) → HasBlankIndents (node_onto [] n rest) → HasBlankIndents (node_onto [] n nothing) × HasBlankIndents rest
node-both n rest h =
    let opened = out_of (Tree → Tree) (view_step []) n in
    let both = layer-both opened.0 rest (subst (λ f. HasBlankIndents (f rest)) opened.1 h) in
    (subst (λ f. HasBlankIndents (f nothing)) (sym opened.1) both.0, both.1)

-- each node of some
pub node-blank : (ns : List Node) (i : ℕ) (d node : Node) → HasBlankIndents (tree_view [] ns) → i < length ns → node ≡ get_or ns i d → HasBlankIndents (node_onto [] node nothing)
node-blank [] i d node h l is = absurd (omega arith)
node-blank (n ∷ ns) zero d node h l is = subst (λ n. HasBlankIndents (node_onto [] n nothing)) (sym is) (node-both n (tree_view [] ns) h).0
node-blank (n ∷ ns) (suc i) d node h l is = node-blank ns i d node (node-both n (tree_view [] ns) h).1 (omega arith) is

-- a section's block
pub section-blank : (node : Node) (name : String Global) (block : Vec Node Global) (ns : List Node) → node ≡ Section name block → ns ≡ block.items → HasBlankIndents (node_onto [] node nothing) → HasBlankIndents (tree_view [] ns)
section-blank node name block ns is blocks h =
    let k : HasBlankIndents (node_onto [] (Section name block) nothing) = subst (λ n. HasBlankIndents (node_onto [] n nothing)) is h in
    subst (λ ns. HasBlankIndents (tree_view [] ns)) (sym blocks) (subst (λ f. HasBlankIndents (f nothing)) (onto_section [] name block) k).0

pub inverted-blank : (node : Node) (name : String Global) (block : Vec Node Global) (ns : List Node) → node ≡ Inverted name block → ns ≡ block.items → HasBlankIndents (node_onto [] node nothing) → HasBlankIndents (tree_view [] ns)
inverted-blank node name block ns is blocks h =
    let k : HasBlankIndents (node_onto [] (Inverted name block) nothing) = subst (λ n. HasBlankIndents (node_onto [] n nothing)) is h in
    subst (λ ns. HasBlankIndents (tree_view [] ns)) (sym blocks) (subst (λ f. HasBlankIndents (f nothing)) (onto_inverted [] name block) k).0

both-blank : (w : List ℕ) (own : Option (String Global)) → AreBlank w → AreBlank (own_under [] own) → AreBlank (own_under w own)
both-blank w None blank h = refl
both-blank w (Some own) blank h = list_all-append is_blank w (string_bytes own) ∙ ap (λ c. c && list_all is_blank (string_bytes own)) blank ∙ h

-- a partial's own blanks, after the margin
pub partial-blank : (w : List ℕ) (node : Node) (name : String Global) (own : Option (String Global)) → node ≡ Partial name own → AreBlank w → HasBlankIndents (node_onto [] node nothing) → AreBlank (own_under w own)
partial-blank w node name own is blank h =
    let k : HasBlankIndents (node_onto [] (Partial name own) nothing) = subst (λ n. HasBlankIndents (node_onto [] n nothing)) is h in
    both-blank w own blank (subst (λ f. HasBlankIndents (f nothing)) (onto_partial [] name own) k).0
