-- What is known between two tokens: the open sections, and the nodes since the innermost one opened.
use Rattle.std.specs.Prelude.{◌≡◌, ℕ, Bool, true, false, List, [], ◌∷◌, map, reverse, Ok, string_bytes}
use Rattle.mustache_scan.specs.Standalone.{TokenSeen}
use Rattle.mustache_scan.specs.View.{token_view, tokens_view}
use Rattle.mustache_scan.specs.declared.token.Token.{Token}
use Rattle.mustache_parse.specs.Margin.{Marked, tag_under, with_marked, levels_under}
use Rattle.mustache_parse.specs.Tree.{Tree, section, inverted, Open, nest, open_after, Levels, last, onto}
use Rattle.mustache_parse.specs.Tree.{closing, with_token}
use Rattle.mustache_parse.specs.View.{node_onto, tree_view}
use Rattle.mustache_parse.specs.declared.nesting.Nesting.{Nesting}
use Rattle.mustache_parse.specs.declared.nesting.OpenSection.{OpenSection}
use Rattle.mustache_parse.specs.declared.node.Node.{Node}

-- nodes in front of a tree, under a margin
abbrev pub before : List ℕ → List Node → Tree → Tree
before w [] rest = rest
before w (n ∷ ns) rest = node_onto w n (before w ns rest)

-- what a block makes of the rest of a list
abbrev pub made_by : Bool → List ℕ → Tree → Tree → Tree
made_by true name = inverted name
made_by false name = section name

-- the levels that result from the open sections, the innermost first, from the nodes since, and from what is
-- left
abbrev pub levels_over : List ℕ → List OpenSection → List Node → Levels → Levels
levels_over w [] nodes ls = onto (before w nodes) ls
levels_over w (s ∷ above) nodes ls =
    levels_over w above s.before.items
    (closing (made_by s.is_inverted (string_bytes s.name)) (onto (before w nodes) ls))

abbrev pub open_view : OpenSection → Open
open_view s = record { name = string_bytes s.name; place = s.place }

-- the open sections, the innermost first
abbrev pub opens_view : Nesting → List Open
opens_view n = map open_view (reverse n.opened.items)

abbrev pub levels_with : List ℕ → Nesting → Levels → Levels
levels_with w n ls = levels_over w (reverse n.opened.items) n.nodes.items ls

-- the code's token, and whether it says that it is standalone
abbrev pub marked_view : Token → Marked
marked_view t = record { token = token_view t; is_alone = t.is_alone }

-- One more token was read. It nests. Under each margin, the old state gives the same levels with the token in
-- front of the rest as the new state gives with the rest.
pub record Reads (t : TokenSeen) (make : List ℕ → Levels → Levels) (old new : Nesting) : Type 0 where
  pub nests : nest t.kind t.inside t.place (opens_view old) ≡ Ok (opens_view new)
  pub levels_are : (w : List ℕ) (ls : Levels) → levels_with w old (make w ls) ≡ levels_with w new ls

-- what a tag does to levels, and what any token does
abbrev pub tag_makes : Token → List ℕ → Levels → Levels
tag_makes t w ls = with_token (tag_under w (marked_view t)) t.kind ls

abbrev pub token_makes : Token → (leads trails : Bool) → List ℕ → Levels → Levels
token_makes t leads trails w ls = with_marked w leads trails (marked_view t) t.kind ls

-- The nodes of some tokens: no section is left open, and under each margin the nodes are what the tokens'
-- levels are.
pub record AreNodesOf (tokens : List Token) (ns : List Node) : Type 0 where
  pub nests : open_after [] (tokens_view tokens) ≡ Ok []
  pub levels_are : (w : List ℕ) → levels_under w true (map marked_view tokens) ≡ last (tree_view w ns)
