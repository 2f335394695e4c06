-- Places within ranges and outside them.
use Rattle.std.proofs.Common.{◌≡◌, ◌⊎◌, ◌+◌, ◌<◌, ◌≤◌, ℕ, zero, suc, ◌∷◌, ◌++◌, [], List, length, get_or, drop, inl, inr, ⊎_elim, refl, sym, subst, arith}
use Rattle.site_disk.specs.Model.{Range, IsOutside, IsWithin}

pub is_outside_or_not : (at size place : ℕ) → ((place < at) ⊎ (at + size ≤ place)) ⊎ ((at ≤ place) × (place < at + size))
is_outside_or_not at size place = search arith

pub outside_or_within : (place : ℕ) (ranges : List Range) → IsOutside place ranges ⊎ IsWithin place ranges
outside_or_within place [] = inl tt
outside_or_within place (range ∷ ranges) = ⊎_elim
    (λ out. ⊎_elim (λ others. inl (out, others)) (λ others. inr (inr others)) (outside_or_within place ranges))
    (λ here. inr (inl here))
    (is_outside_or_not range.start range.size place)

pub none_within : (written : List Range) (place : ℕ) → written ≡ [] → IsWithin place written → ⊥
none_within written place none within = let P : List Range → Type 0 = λ w. IsWithin place w in subst P none within

-- bytes that agree with others as far as they go, and then are theirs
pub agree_grown : (old bytes : List ℕ) (place : ℕ) → place < length bytes → (place < length old → get_or bytes place 0 ≡ get_or old place 0) → get_or (old ++ drop (length old) bytes) place 0 ≡ get_or bytes place 0
agree_grown [] bytes place lt agree = refl
agree_grown (x ∷ old) [] place lt agree = absurd (omega (arith, lt))
agree_grown (x ∷ old) (y ∷ bytes) zero lt agree = sym (agree (omega arith))
agree_grown (x ∷ old) (y ∷ bytes) (suc place) lt agree = agree_grown old bytes place (omega (arith, lt)) (λ here. agree (omega (arith, here)))
