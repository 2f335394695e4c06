-- What a text's tokens nest into after blanks, the margin `w`, are put before each of its lines.
use Rattle.std.specs.Prelude.{◌≡◌, ℕ, Bool, true, false, not, List, [], ◌∷◌, ◌++◌, map, Ok}
use Rattle.mustache_scan.specs.Standalone.{TokenSeen, is_alone, scanned}
use Rattle.mustache_scan.specs.declared.token.TokenKind.{TokenKind}
use Rattle.mustache_scan.specs.declared.token.TokenKind.TheVariants.{Literal}
use Rattle.mustache_parse.specs.Indent.{indented}
use Rattle.mustache_parse.specs.Indenting.{spread, after_each, AreBlank}
use Rattle.mustache_parse.specs.Tree.{Tree, nothing, text, Levels, last, onto, with_token, first_level}
use Rattle.mustache_parse.specs.Tree.{tree_of}

-- A literal under a margin. `leads` says that it begins a line, and `trails` that a tag follows on its last
-- line.
abbrev pub literal_under : List ℕ → (leads trails : Bool) → List ℕ → List ℕ
literal_under w true true t = w ++ after_each w t
literal_under w true false t = indented w t
literal_under w false true t = after_each w t
literal_under w false false t = spread w t

-- no literal is empty
abbrev pub text_onto : List ℕ → Tree → Tree
text_onto [] rest = rest
text_onto (b ∷ bs) rest = text (b ∷ bs) rest

-- a token, and whether it is a standalone tag
pub record Marked : Type 0 where
  pub token : TokenSeen
  pub is_alone : Bool

abbrev pub marked : List ℕ → List TokenSeen → List Marked
marked t ts = map (λ x. record { token = x; is_alone = is_alone t x }) ts

-- the indentation of a standalone partial becomes longer by the margin, and any other partial has none
abbrev pub indent_under : List ℕ → Bool → List ℕ → List ℕ
indent_under w true own = w ++ own
indent_under w false own = []

abbrev pub tag_under : List ℕ → Marked → TokenSeen
tag_under w m = record {
  kind = m.token.kind;
  inside = m.token.inside;
  place = m.token.place;
  text = m.token.text;
  indent = indent_under w m.is_alone m.token.indent;
}

-- whether a tag comes next that is not standalone
abbrev pub goes_on : List Marked → Bool
goes_on [] = false
goes_on (m ∷ ms) = not m.is_alone

-- a token in front of levels. A tag that begins a line and is not standalone has the margin before it
abbrev pub with_marked : List ℕ → (leads trails : Bool) → Marked → TokenKind → Levels → Levels
with_marked w leads trails m Literal ls = onto (text_onto (literal_under w leads trails m.token.text)) ls
with_marked w leads trails m kind ls =
    onto (text_onto (literal_under w leads (not m.is_alone) [])) (with_token (tag_under w m) kind ls)

-- the levels under a margin: a line begins at the start, and after a standalone tag
abbrev pub levels_under : List ℕ → (leads : Bool) → List Marked → Levels
levels_under w leads [] = last nothing
levels_under w leads (m ∷ ms) = with_marked w leads (goes_on ms) m m.token.kind (levels_under w m.is_alone ms)

-- If a text has a tree, the tree of the indented text is that of the text's own tokens under the margin.
abbrev pub MarginMakesTree : Type 0
MarginMakesTree =
    (w t : List ℕ) (ts : List TokenSeen) (tree : Tree) → AreBlank w → scanned t ≡ Ok ts → tree_of t ≡ Ok tree
    → tree_of (indented w t) ≡ Ok (first_level (levels_under w true (marked t ts)))
