-- The fields that a head's spans cover.
use Rattle.std.specs.Prelude.{ℕ, List, [], ◌∷◌, map, All, length, Option, Some, None}
use Rattle.httparse.specs.declared.spans.HeaderSpan.{HeaderSpan}
use Rattle.httparse.specs.Spans.{header_bytes, IsHeaderWithin}
use Rattle.http_read.specs.Checks.{FieldPair}

-- names and values
abbrev pub covered : List ℕ → List HeaderSpan → List FieldPair
covered bytes fields = map (header_bytes bytes) fields

-- the fields lie in the bytes
abbrev pub LieIn : List ℕ → List HeaderSpan → Type 0
LieIn bytes fields = All (IsHeaderWithin (length bytes)) fields

-- the first element
abbrev pub head_of : {X : Type 0} → List X → Option X
head_of [] = None
head_of (x ∷ xs) = Some x
