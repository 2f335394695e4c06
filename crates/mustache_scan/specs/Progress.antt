-- A bridge from the code to the reading, not a definition: the next tag that the code finds, what that tag
-- takes of the text, and what is left of the literal before it. `StandaloneLemmas`, `TakenLemmas` and
-- `StepLemmas` tie it to `Standalone`.
use Rattle.std.specs.Prelude.{ℕ, true, false, List, [], ◌∷◌, Option, None, Some, Result, Ok, Err, slice_range}
use Rattle.mustache_scan.specs.Cutting.{stripped}
use Rattle.mustache_scan.specs.Reading.{Opened, wrong_inside, name_of}
use Rattle.mustache_scan.specs.Standalone.{TokenSeen, standalone_lines, may_be_standalone}
use Rattle.mustache_scan.specs.declared.token.TokenKind.{TokenKind}
use Rattle.mustache_scan.specs.declared.token.TokenKind.TheVariants.{Literal, Partial}
use Rattle.mustache_scan.specs.declared.fault.FaultKind.{FaultKind}
use Rattle.mustache_scan.specs.declared.fault.FaultKind.TheVariants.{UnclosedTag}

abbrev pub or_wrong : Opened → Option FaultKind → Result Opened FaultKind
or_wrong o None = Ok o
or_wrong o (Some wrong) = Err wrong

-- a tag without the padding round its inside, or what is wrong with it
abbrev pub checked : Option Opened → Result Opened FaultKind
checked None = Err UnclosedTag
checked (Some o) =
    or_wrong (record { kind = o.kind; inside = stripped o.inside; rest = o.rest })
    (wrong_inside o.kind (stripped o.inside))

-- the lines of a tag of this kind, if it is standalone
abbrev pub standalone_of : List ℕ → TokenKind → ℕ → ℕ → Option (ℕ × ℕ)
standalone_of t kind first past =
    elim (may_be_standalone kind) [ true ↦ standalone_lines t first past | false ↦ None ]

abbrev pub lines_or : ℕ → ℕ → Option (ℕ × ℕ) → ℕ × ℕ
lines_or first past None = (first, past)
lines_or first past (Some lines) = lines

-- what a tag takes of its text, from place to place: its lines if it is standalone, and its own bytes if it
-- is not
abbrev pub taken : List ℕ → TokenKind → ℕ → ℕ → ℕ × ℕ
taken t kind first past = lines_or first past (standalone_of t kind first past)

-- no literal is empty
abbrev pub literal_at : ℕ → List ℕ → List TokenSeen
literal_at place [] = []
literal_at place (b ∷ bs) =
    record { kind = Literal; inside = []; place = place; text = b ∷ bs; indent = [] } ∷ []

-- only a partial has an indentation
abbrev pub indent_in : List ℕ → TokenKind → ℕ → ℕ → List ℕ
indent_in t Partial start place = slice_range t start place
indent_in t _ start place = []

-- the token of a tag from place to place
abbrev pub tag_at : List ℕ → TokenKind → List ℕ → ℕ → ℕ → TokenSeen
tag_at t kind inside place past = record {
  kind = kind;
  inside = name_of kind inside;
  place = place;
  text = slice_range t place past;
  indent = indent_in t kind (taken t kind place past).0 place;
}
