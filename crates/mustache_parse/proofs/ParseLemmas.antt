-- The nodes of a text's tokens: under each margin the tree of the text indented by that.
use Rattle.std.proofs.Common.{◌≡◌, ℕ, true, List, [], ◌∷◌, map, Ok, refl, sym, ap, ◌∙◌}
use Rattle.mustache_scan.specs.Marks.{AreMarked}
use Rattle.mustache_scan.specs.Standalone.{scanned, is_alone}
use Rattle.mustache_scan.specs.View.{token_view, tokens_view}
use Rattle.mustache_scan.specs.declared.token.Token.{Token}
use Rattle.mustache_parse.specs.BlankIndents.{HasBlankIndents}
use Rattle.mustache_parse.specs.Indent.{indented}
use Rattle.mustache_parse.specs.Indenting.{AreBlank}
use Rattle.mustache_parse.specs.Margin.{marked, levels_under}
use Rattle.mustache_parse.specs.Stack.{marked_view, AreNodesOf}
use Rattle.mustache_parse.specs.Template.{TemplateSeen, IsTemplateOf}
use Rattle.mustache_parse.specs.Tree.{levels, first_level, tree_of}
use Rattle.mustache_parse.specs.View.{tree_view}
use Rattle.mustache_parse.specs.declared.node.Node.{Node}
use Rattle.mustache_parse.proofs.BlankLemmas.{indents-blank}
use Rattle.mustache_parse.proofs.IndentingLemmas.{nothing-to_indent}
use Rattle.mustache_parse.proofs.MakesLemmas.{settled}
use Rattle.mustache_parse.proofs.MarginTreeLemmas.{margin-tree}
use Rattle.mustache_parse.proofs.TextLemmas.{tree_is}

-- the marks are those of the text
marks-same : (t : List ℕ) (ts : List Token) → AreMarked t ts → map marked_view ts ≡ marked t (tokens_view ts)
marks-same t [] h = refl
marks-same t (x ∷ ts) h = ap (λ b. record { token = token_view x; is_alone = b } ∷ map marked_view ts) h.0 ∙ ap (λ l. record { token = token_view x; is_alone = is_alone t (token_view x) } ∷ l) (marks-same t ts h.1)

-- nodes that are a text's
abbrev pub Holds : List ℕ → List Node → Type 0
Holds t ns = (w : List ℕ) → AreBlank w → tree_of (indented w t) ≡ Ok (tree_view w ns)

pub nodes-of_text : (t : List ℕ) (ts : List Token) (ns : List Node) → scanned t ≡ Ok (tokens_view ts) → AreMarked t ts → AreNodesOf ts ns → Holds t ns
nodes-of_text t ts ns is marks h = λ w blank.
    let tree : tree_of t ≡ Ok (first_level (levels (tokens_view ts))) = tree_is t (tokens_view ts) (Ok (first_level (levels (tokens_view ts)))) is (ap (settled (first_level (levels (tokens_view ts)))) h.nests) in
    margin-tree w t (tokens_view ts) (first_level (levels (tokens_view ts))) blank is tree
    ∙ ap (λ ms. Ok (first_level (levels_under w true ms))) (sym (marks-same t ts marks)) ∙ ap (λ ls. Ok (first_level ls)) (h.levels_are w)

-- without a margin they are the text's own tree
whole : (t : List ℕ) (ns : List Node) → Holds t ns → tree_of t ≡ Ok (tree_view [] ns)
whole t ns h = ap tree_of (sym (nothing-to_indent t).0) ∙ h [] refl

pub blank-nodes : (t : List ℕ) (ns : List Node) → Holds t ns → HasBlankIndents (tree_view [] ns)
blank-nodes t ns h = indents-blank t (tree_view [] ns) (whole t ns h)

pub template-of : (t : List ℕ) (ns : List Node) (seen : TemplateSeen) → seen.nodes ≡ ns → Holds t ns → IsTemplateOf seen t
template-of t ns seen is h = record {
  holds = whole t ns h ∙ ap (λ ns. Ok (tree_view [] ns)) (sym is);
  under = λ w blank. h w blank ∙ ap (λ ns. Ok (tree_view w ns)) (sym is);
}
