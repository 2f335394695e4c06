-- A text with blanks before each of its lines.
use Rattle.std.specs.Prelude.{ℕ, true, false, ◌==◌, List, [], ◌∷◌, ◌++◌, flat_map}
use Rattle.std.specs.List.{onto_first}

-- the lines of a text, each with its newline; a newline at the end begins no line
abbrev pub lines : List ℕ → List (List ℕ)
lines [] = []
lines (b ∷ bs) = elim (b == 10) [ true ↦ (b ∷ []) ∷ lines bs | false ↦ onto_first b (lines bs) ]

-- `w` before each line
unfoldable pub indented : List ℕ → List ℕ → List ℕ
indented w t = flat_map (λ line. w ++ line) (lines t)
