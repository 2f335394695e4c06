-- Standalone tags, and what they leave of the literals around them.
use Rattle.std.specs.Prelude.{ℕ, ◌+◌, ◌-◌, Bool, true, false, ◌&&◌, ◌==◌, nat_lt, nat_le, List, [], ◌∷◌, map}
use Rattle.std.specs.Prelude.{Option, None, Some, Result, Ok, Err, length, take, drop, is_some}
use Rattle.std.specs.List.{list_any, list_all, after_last, take_while, filter_map, flat_map}
use Rattle.mustache_scan.specs.Cutting.{is_blank, is_newline}
use Rattle.mustache_scan.specs.Names.{braces}
use Rattle.mustache_scan.specs.Reading.{Piece, Pieces, reading, text_of}
use Rattle.mustache_scan.specs.declared.token.TokenKind.{TokenKind}
use Rattle.mustache_scan.specs.declared.token.TokenKind.TheVariants.{Literal, Variable, Raw, Partial}
use Rattle.mustache_scan.specs.declared.fault.FaultKind.{FaultKind}
use Rattle.mustache_scan.specs.declared.fault.TemplateFault.{TemplateFault}

-- The length of the line end at the front of a text: of a newline, or of a carriage return and a newline; 0
-- at the end of the text. None if the line goes on.
abbrev pub line_end : List ℕ → Option ℕ
line_end [] = Some 0
line_end (b ∷ []) = elim (b == 10) [ true ↦ Some 1 | false ↦ None ]
line_end (b ∷ c ∷ bs) =
    elim (b == 10) [ true ↦ Some 1 | false ↦ elim (b == 13 && c == 10) [ true ↦ Some 2 | false ↦ None ] ]

-- what is on the last line of a text
abbrev pub last_line : List ℕ → List ℕ
last_line t = after_last is_newline t

abbrev pub lines_from : ℕ → ℕ → Option ℕ → Option (ℕ × ℕ)
lines_from first past None = None
lines_from first past (Some n) = Some (first, past + n)

-- The lines of a standalone tag, from place to place. In the text `t` the tag's first byte is at `first`, and
-- `past` is the place after its last. The tag is standalone if only blanks are before it on its first line,
-- and after it on its last.
abbrev pub standalone_lines : List ℕ → ℕ → ℕ → Option (ℕ × ℕ)
standalone_lines t first past =
    let before = last_line (take first t) in
    let blanks = take_while is_blank (drop past t) in
    elim (list_all is_blank before) [
      | true ↦ lines_from (first - length before) (past + length blanks)
          (line_end (drop (past + length blanks) t))
      | false ↦ None
    ]

-- variables are never standalone
abbrev pub may_be_standalone : TokenKind → Bool
may_be_standalone Literal = false
may_be_standalone Variable = false
may_be_standalone Raw = false
may_be_standalone _ = true

-- each piece with the place of its first byte
abbrev pub placed : ℕ → List Piece → List (ℕ × Piece)
placed at [] = []
placed at (p ∷ ps) = (at, p) ∷ placed (at + length p.bytes) ps

-- the lines of a piece, if it is a standalone tag
abbrev pub standalone : List ℕ → ℕ × Piece → Option (ℕ × ℕ)
standalone t p =
    elim (may_be_standalone p.1.kind) [
      | true ↦ standalone_lines t p.0
          (p.0 + length p.1.bytes)
      | false ↦ None
    ]

-- all such lines of a text
abbrev pub standalone_lines_of : List ℕ → List (ℕ × Piece) → List (ℕ × ℕ)
standalone_lines_of t ps = filter_map (standalone t) ps

abbrev pub is_covered : List (ℕ × ℕ) → ℕ → Bool
is_covered lines place = list_any (λ l. nat_le l.0 place && nat_lt place l.1) lines

-- A token: its kind, a tag's name, its place, its text, and for a standalone partial the blanks before it.
pub record TokenSeen : Type 0 where
  pub kind : TokenKind
  pub inside : List ℕ
  pub place : ℕ
  pub text : List ℕ
  pub indent : List ℕ

-- whether a token is a standalone tag
abbrev pub is_alone : List ℕ → TokenSeen → Bool
is_alone t x = is_some (standalone t (x.place, record { kind = x.kind; inside = x.inside; bytes = x.text }))

-- the bytes that no line of a standalone tag covers, with their places
abbrev pub kept : List (ℕ × ℕ) → ℕ → List ℕ → List (ℕ × ℕ)
kept lines at [] = []
kept lines at (b ∷ bs) =
    elim (is_covered lines at) [ true ↦ kept lines (at + 1) bs | false ↦ (at, b) ∷ kept lines (at + 1) bs ]

-- no literal is empty
abbrev pub literal_of : List (ℕ × ℕ) → List TokenSeen
literal_of [] = []
literal_of ((at, b) ∷ bs) =
    record { kind = Literal; inside = []; place = at; text = b ∷ map (λ x. x.1) bs; indent = [] } ∷ []

-- the blanks before a standalone tag
abbrev pub blanks_before : ℕ → List ℕ → Option (ℕ × ℕ) → List ℕ
blanks_before at t None = []
blanks_before at t (Some l) = take (at - l.0) (drop l.0 t)

-- the indentation of a tag: only a partial has one
abbrev pub indent_of : List ℕ → ℕ × Piece → TokenKind → List ℕ
indent_of t p Partial = blanks_before p.0 t (standalone t p)
indent_of t p _ = []

abbrev pub is_literal : TokenKind → Bool
is_literal Literal = true
is_literal _ = false

abbrev pub tag_token : List ℕ → ℕ × Piece → TokenSeen
tag_token t p = record {
  kind = p.1.kind;
  inside = p.1.inside;
  place = p.0;
  text = p.1.bytes;
  indent = indent_of t p p.1.kind;
}

abbrev pub tokens_at : List ℕ → List (ℕ × ℕ) → ℕ × Piece → List TokenSeen
tokens_at t lines p =
    elim (is_literal p.1.kind) [ true ↦ literal_of (kept lines p.0 p.1.bytes) | false ↦ tag_token t p ∷ [] ]

-- the tokens of a text's pieces: its tags, and of its literals what no line of a standalone tag covers
abbrev pub tokens_of : List ℕ → List (ℕ × Piece) → List TokenSeen
tokens_of t ps = flat_map (tokens_at t (standalone_lines_of t ps)) ps

-- a fault of reading is at the place of the tag after the pieces
abbrev pub outcome : List ℕ → Pieces → Option FaultKind → Result (List TokenSeen) TemplateFault
outcome t r None = Ok (tokens_of t (placed 0 r.pieces))
outcome t r (Some kind) = Err (record { kind = kind; place = length (text_of r.pieces) })

-- the result of scanning a text: its tokens, or the first fault
unfoldable pub scanned : List ℕ → Result (List TokenSeen) TemplateFault
scanned t = let r = reading braces t in outcome t r r.wrong
