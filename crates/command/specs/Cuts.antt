-- Cuts of a text.
use Rattle.std.specs.Prelude.{ℕ, List, [], ◌∷◌, ◌==◌, if◌then◌else◌, Option, Some, None, option_map}

-- what follows the front, if the text begins with it
abbrev pub after_front : List ℕ → List ℕ → Option (List ℕ)
after_front [] text = Some text
after_front (b ∷ bs) [] = None
after_front (b ∷ bs) (x ∷ xs) = if b == x then after_front bs xs else None

-- what is before the first byte b and what is after it, if there is one
abbrev pub cut_at : ℕ → List ℕ → Option (List ℕ × List ℕ)
cut_at b [] = None
cut_at b (x ∷ xs) = if x == b then Some ([], xs) else option_map (λ p. (x ∷ p.0, p.1)) (cut_at b xs)
