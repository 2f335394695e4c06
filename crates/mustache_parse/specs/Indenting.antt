-- What indenting a text does to its pieces. It neither gives a text a tree nor takes one away.
use Rattle.std.specs.Prelude.{◌≡◌, ◌<◌, ◌↔◌, ℕ, true, false, ◌==◌, List, [], ◌∷◌, ◌++◌, map, length, Option}
use Rattle.std.specs.Prelude.{None, Some, Ok, IsTrue}
use Rattle.std.specs.List.{list_all}
use Rattle.mustache_scan.specs.Cutting.{is_blank}
use Rattle.mustache_scan.specs.Names.{braces}
use Rattle.mustache_scan.specs.Reading.{Piece, Pieces, literal, reading}
use Rattle.mustache_scan.specs.Standalone.{is_literal}
use Rattle.mustache_scan.specs.declared.fault.FaultKind.{FaultKind}
use Rattle.mustache_parse.specs.Indent.{indented}
use Rattle.mustache_parse.specs.Tree.{Tree, tree_of}

-- `w` after each newline that does not end the text
abbrev pub spread : List ℕ → List ℕ → List ℕ
spread w [] = []
spread w (b ∷ []) = b ∷ []
spread w (b ∷ c ∷ bs) = elim (b == 10) [ true ↦ b ∷ (w ++ spread w (c ∷ bs)) | false ↦ b ∷ spread w (c ∷ bs) ]

-- `w` after each newline
abbrev pub after_each : List ℕ → List ℕ → List ℕ
after_each w [] = []
after_each w (b ∷ bs) = elim (b == 10) [ true ↦ b ∷ (w ++ after_each w bs) | false ↦ b ∷ after_each w bs ]

-- a piece with other bytes
abbrev pub with_bytes : List ℕ → Piece → Piece
with_bytes bytes p = record { kind = p.kind; inside = p.inside; bytes = bytes }

-- pieces after which more of the text follows
abbrev pub spread_inner : List ℕ → List Piece → List Piece
spread_inner w ps = map (λ p. with_bytes (after_each w p.bytes) p) ps

-- pieces that end their text
abbrev pub spread_last : List ℕ → List Piece → List Piece
spread_last w [] = []
spread_last w (p ∷ []) = with_bytes (spread w p.bytes) p ∷ []
spread_last w (p ∷ q ∷ ps) = with_bytes (after_each w p.bytes) p ∷ spread_last w (q ∷ ps)

-- Pieces with `w` after each newline that does not end their text. A tag with a fault comes after the pieces
-- before it.
abbrev pub spread_pieces : List ℕ → Option FaultKind → List Piece → List Piece
spread_pieces w None ps = spread_last w ps
spread_pieces w (Some kind) ps = spread_inner w ps

-- pieces with `w` in front of the first one: at the front of a literal, or as a literal before a tag
abbrev pub with_front : List ℕ → List Piece → List Piece
with_front w [] = literal w
with_front w (p ∷ ps) =
    elim (is_literal p.kind) [ true ↦ with_bytes (w ++ p.bytes) p ∷ ps | false ↦ literal w ++ p ∷ ps ]

-- the pieces of a text that is not empty, after it is indented
abbrev pub indented_pieces : List ℕ → Pieces → Pieces
indented_pieces w r = record { pieces = with_front w (spread_pieces w r.wrong r.pieces); wrong = r.wrong }

-- spaces and tabs only
abbrev pub AreBlank : List ℕ → Type 0
AreBlank w = IsTrue (list_all is_blank w)

-- Indenting changes only the bytes of pieces: kinds, names and the kind of a fault stay.
abbrev pub IndentsPieces : Type 0
IndentsPieces =
    (w t : List ℕ) → AreBlank w → 0 < length t
    → reading braces (indented w t) ≡ indented_pieces w (reading braces t)

-- a text that has a tree
abbrev pub HasTree : List ℕ → Type 0
HasTree t = (tree : Tree) × (tree_of t ≡ Ok tree)

abbrev pub KeepsTrees : Type 0
KeepsTrees = (w t : List ℕ) → AreBlank w → HasTree t ↔ HasTree (indented w t)

-- to indent by no blanks changes nothing, and a text without bytes has no line to indent
abbrev pub NothingToIndent : Type 0
NothingToIndent = (t : List ℕ) → (indented [] t ≡ t) × (indented t [] ≡ [])
