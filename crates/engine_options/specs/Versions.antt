-- A program's version.
use Rattle.std.specs.Prelude.{ℕ, ◌≡◌, List, [], ◌∷◌, ◌++◌, codes}

-- the words are a name and `--version`, and nothing else
abbrev pub AskVersion : List (List ℕ) → Type 0
AskVersion words = (name : List ℕ) × (words ≡ name ∷ codes "--version" ∷ [])

-- its name, and the newest heading of docs/CHANGES.md
abbrev pub version_line : List ℕ → List ℕ
version_line name = name ++ codes " 1.0\n"
