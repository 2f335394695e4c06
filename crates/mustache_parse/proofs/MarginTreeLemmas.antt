-- The tree of an indented text, by the tokens of the text.
use Rattle.std.proofs.Common.{◌≡◌, ℕ, true, List, [], ◌∷◌, Result, Ok, refl, sym, ap, ◌∙◌, arith}
use Rattle.mustache_scan.specs.Names.{braces}
use Rattle.mustache_scan.specs.Standalone.{TokenSeen, scanned}
use Rattle.mustache_scan.specs.declared.fault.TemplateFault.{TemplateFault}
use Rattle.mustache_scan.proofs.CutLemmas.{cut_nil}
use Rattle.mustache_scan.proofs.OutcomeLemmas.{begins, ends_well}
use Rattle.mustache_parse.specs.Indent.{indented}
use Rattle.mustache_parse.specs.Margin.{marked, levels_under, MarginMakesTree}
use Rattle.mustache_parse.specs.Tree.{Tree, levels, first_level, nested, tree_of}
use Rattle.mustache_parse.proofs.IndentingLemmas.{keeps-trees}
use Rattle.mustache_parse.proofs.MarginTextLemmas.{no_lines}
use Rattle.mustache_parse.proofs.MarginWalkLemmas.{side-by-side}
use Rattle.mustache_parse.proofs.SpreadLemmas.{all-are}
use Rattle.mustache_parse.proofs.TextLemmas.{tree_is}
use Rattle.mustache_parse.proofs.TreeLemmas.{tree-made, made_levels}
use Rattle.mustache_scan.specs.Cutting.{is_blank}

-- a tree that tokens nest into is their first level
pub tree-level : (ts : List TokenSeen) (tree : Tree) → nested ts ≡ Ok tree → tree ≡ first_level (levels ts)
tree-level ts tree h = ap first_level (sym (made_levels ts tree ((tree-made ts tree).0 h).0))

by-tokens : (t : List ℕ) (ts : List TokenSeen) (tree : Tree) → scanned t ≡ Ok ts → tree_of t ≡ Ok tree → tree_of t ≡ Ok (first_level (levels ts))
by-tokens t ts tree is h = h ∙ ap (λ l. Ok l) (tree-level ts tree (sym (tree_is t ts (nested ts) is refl) ∙ h))

same_tokens : (r : Result (List TokenSeen) TemplateFault) (a b : List TokenSeen) → r ≡ Ok a → r ≡ Ok b → a ≡ b
same_tokens r a b one other = cc

pub margin-tree : MarginMakesTree
margin-tree w [] ts tree blank is h =
    let none : scanned [] ≡ Ok [] = ends_well [] [] braces 0 [] (begins []) refl (cut_nil braces.opening) in
    let empty : [] ≡ ts = same_tokens (scanned []) [] ts none is in
    ap tree_of (no_lines w) ∙ by-tokens [] [] tree none h ∙ ap (λ ts. Ok (first_level (levels_under w true (marked [] ts)))) empty
margin-tree w (b ∷ bs) ts tree blank is h =
    let t = b ∷ bs in
    let side = side-by-side w (all-are is_blank w blank) blank t (indented w t) refl ts is (omega arith) in
    let has = (keeps-trees w t blank).0 (tree, h) in
    by-tokens (indented w t) side.0 has.0 side.1 has.1 ∙ ap (λ l. Ok (first_level l)) side.2
