-- Addresses read one after another.
use Rattle.std.proofs.Common.{◌<◌, ◌≤◌, ℕ, zero, suc, List, [], ◌∷◌, length, take, get_or, refl, subst, inl, inr, arith}
use Rattle.site_ids.specs.Lists.{In}
use Rattle.server.specs.Placing.{IsAddress, AreAddresses}

pub in_at : {X : Type 0} (xs : List X) (k : ℕ) (d : X) → k < length xs → In xs (get_or xs k d)
in_at [] k d below = absurd (omega (arith, below))
in_at (y ∷ ys) zero d below = inl refl
in_at (y ∷ ys) (suc k) d below = inr (in_at ys k d (omega (arith, below)))

-- the next one too
pub next_address : {X : Type 0} (text_of : X → List ℕ) (xs : List X) (i : ℕ) (d : X) → i < length xs
    → AreAddresses (take i xs) text_of → IsAddress (text_of (get_or xs i d)) → AreAddresses (take (suc i) xs) text_of
next_address text_of [] i d below each one z there = absurd (omega (arith, below))
next_address text_of (y ∷ ys) zero d below each one z (inl same) = subst (λ w. IsAddress (text_of w)) same one
next_address text_of (y ∷ ys) zero d below each one z (inr none) = absurd none
next_address text_of (y ∷ ys) (suc k) d below each one z (inl same) = each z (inl same)
next_address text_of (y ∷ ys) (suc k) d below each one z (inr there) = next_address text_of ys k d (omega (arith, below)) (λ w h. each w (inr h)) one z there

-- all of them
pub all_addresses : {X : Type 0} (text_of : X → List ℕ) (xs : List X) (i : ℕ) → length xs ≤ i → AreAddresses (take i xs) text_of → AreAddresses xs text_of
all_addresses text_of [] i past each z there = absurd there
all_addresses text_of (y ∷ ys) zero past each z there = absurd (omega (arith, past))
all_addresses text_of (y ∷ ys) (suc i) past each z (inl same) = each z (inl same)
all_addresses text_of (y ∷ ys) (suc i) past each z (inr there) = all_addresses text_of ys i (omega (arith, past)) (λ w h. each w (inr h)) z there
