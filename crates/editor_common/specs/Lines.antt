-- Lines that are written.
use Rattle.std.specs.Prelude.{◌≡◌, ℕ, List, [], ◌∷◌, ◌++◌, length, Option}
use Rattle.std.specs.List.{flat_map}
use Rattle.std.specs.Io.KnownBytes.{Appends}

abbrev pub with_end : List ℕ → List ℕ
with_end line = line ++ 10 ∷ []

-- n lines were written, and nothing else
abbrev pub WritesLines : ℕ → Option (List ℕ) → Option (List ℕ) → Type 0
WritesLines n old new =
    (lines : List (List ℕ)) × (length lines ≡ n) × Appends old new (flat_map with_end lines)

-- one line was written, and nothing else
abbrev pub WritesLine : Option (List ℕ) → Option (List ℕ) → Type 0
WritesLine old new = (line : List ℕ) × Appends old new (with_end line)
