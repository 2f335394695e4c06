-- What holds of cuts and of readings.
use Rattle.std.specs.Prelude.{ℕ, ◌≡◌, ◌<◌, ◌≤◌, ◌↔◌, List, ◌++◌, Some, None, length}
use Rattle.mustache_scan.specs.Cutting.{cut}
use Rattle.mustache_scan.specs.Names.{Pair}
use Rattle.mustache_scan.specs.Reading.{one_tag, reading_within, reading}

-- delimiters that open something
abbrev pub Opens : Pair → Type 0
Opens d = 0 < length d.opening

-- `a`, the part and `b` make up the text, and the part occurs at no earlier place.
pub record IsFirstCut (part t a b : List ℕ) : Type 0 where
  pub whole : t ≡ a ++ (part ++ b)
  pub first : (c e : List ℕ) → t ≡ c ++ (part ++ e) → length a ≤ length c

-- a cut is at the first place of the part, and there is none if and only if the part occurs nowhere
abbrev pub CutIsFirst : Type 0
CutIsFirst = (part t a b : List ℕ) → 0 < length part → (cut part t ≡ Some (a, b)) ↔ IsFirstCut part t a b

abbrev pub NoCutIsNowhere : Type 0
NoCutIsNowhere =
    (part t : List ℕ) → 0 < length part → (cut part t ≡ None) ↔ ((c e : List ℕ) → t ≡ c ++ (part ++ e) → ⊥)

-- a reading is one tag and the reading of the rest, and any bound of at least the text's length gives it
abbrev pub ReadingIsOneTag : Type 0
ReadingIsOneTag = (d : Pair) (t : List ℕ) → Opens d → reading d t ≡ one_tag reading d t

abbrev pub BoundIsEnough : Type 0
BoundIsEnough = (n : ℕ) (d : Pair) (t : List ℕ) → Opens d → length t ≤ n → reading_within n d t ≡ reading d t
