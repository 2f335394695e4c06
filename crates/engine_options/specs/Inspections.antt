-- A look at a record.
use Rattle.std.specs.Prelude.{ℕ, ◌≡◌, List, [], ◌∷◌, codes}

-- the words are a name, `--inspect` and the file, and nothing else
abbrev pub AskInspection : List ℕ → List (List ℕ) → Type 0
AskInspection file words = (name : List ℕ) × (words ≡ name ∷ codes "--inspect" ∷ file ∷ [])
