-- Tokens as slices of their text.
use Rattle.std.specs.Prelude.{ℕ, ◌+◌, ◌≤◌, ◌≡◌, List, [], ◌∷◌, length, slice_range}
use Rattle.mustache_scan.specs.Standalone.{TokenSeen}

-- From a place on, each token's text is the slice at its place, in order, and none overlaps the one before
-- it.
abbrev pub AreSlices : List ℕ → ℕ → List TokenSeen → Type 0
AreSlices t from [] = Unit {0}
AreSlices t from (x ∷ xs) =
    let past = x.place + length x.text in
    (from ≤ x.place) × (x.text ≡ slice_range t x.place past) × AreSlices t past xs
