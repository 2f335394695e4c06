-- The text after the words of a submission.
use Rattle.std.specs.Prelude.{◌≡◌, ◌≢◌, ◌≤◌, ℕ, List, ◌∷◌, ◌++◌, length}
use Rattle.std.specs.Borrow.{Bor}
use Rattle.engine_common.specs.declared.found.Found.{Found}
use Rattle.engine_common.specs.declared.found.Found.TheVariants as found

-- A text of `len` bytes and a newline are at the front; or the bytes end before that; or another byte is in
-- the newline's place
abbrev pub IsBody : List ℕ → ℕ → Found (Bor (List ℕ)) → Type 0
IsBody bytes len (found.Line text rest) = (length text.now ≡ len) × (bytes ≡ text.now ++ (10 ∷ rest.now))
IsBody bytes len found.Short = length bytes ≤ len
IsBody bytes len found.Bad =
    (text : List ℕ) × (end : ℕ) × (rest : List ℕ) × (length text ≡ len) × (bytes ≡ text ++ (end ∷ rest))
    × (end ≢ 10)
