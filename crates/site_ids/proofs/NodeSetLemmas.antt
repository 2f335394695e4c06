-- Places of lists, and how many of them are true.
use Rattle.std.proofs.Common.{◌≡◌, ◌⊎◌, inl, inr, ⊎_elim, ℕ, zero, suc, ◌+◌, ◌<◌, ◌≤◌, List, [], ◌∷◌, length, get_or, set, take, Bool, true, false, if◌then◌else◌, refl, sym, ap, ◌∙◌, subst, arith}
use Rattle.std.proofs.lemmas.List.{get_or-set_same, get_or-set_other}
use Rattle.site_ids.specs.NodeSets.{count_of}

-- what is below the next is it or below it
pub below_next : (k i : ℕ) → k < suc i → (k ≡ i) ⊎ (k < i)
below_next zero zero l = inl refl
below_next (suc k) zero l = absurd (omega (arith, l))
below_next zero (suc i) l = inr (omega arith)
below_next (suc k) (suc i) l = ⊎_elim
    (λ (e : k ≡ i). inl (ap suc e))
    (λ (m : k < i). inr (omega (arith, m)))
    (below_next k i (omega (arith, l)))

-- one place more is as it is to be, and those after it stay
pub set_next : {X : Type 0} (xs : List X) (i : ℕ) (v d : X) (f g : ℕ → X) → i < length xs → v ≡ f i
    → ((k : ℕ) → k < i → get_or xs k d ≡ f k) × ((k : ℕ) → i ≤ k → get_or xs k d ≡ g k)
    → ((k : ℕ) → k < i + 1 → get_or (set xs i v) k d ≡ f k) × ((k : ℕ) → i + 1 ≤ k → get_or (set xs i v) k d ≡ g k)
set_next xs i v d f g inside is (before, behind) = (
  λ k l. ⊎_elim
      (λ (same : k ≡ i). subst (λ j. get_or (set xs i v) j d ≡ f j) (sym same) (get_or-set_same xs i v d inside ∙ is))
      (λ (less : k < i). get_or-set_other xs i k v d (λ e. omega (arith, less, e)) ∙ before k less)
      (below_next k i (omega (arith, l))),
  λ k l. get_or-set_other xs i k v d (λ e. omega (arith, l, e)) ∙ behind k (omega (arith, l)),
)

-- one more is counted where it is true
counted : (bs : List Bool) (i : ℕ) → i < length bs → count_of (take (suc i) bs) ≡ count_of (take i bs) + (if get_or bs i false then 1 else 0)
counted [] i l = absurd (omega (arith, l))
counted (true ∷ bs) zero l = refl
counted (false ∷ bs) zero l = refl
counted (true ∷ bs) (suc i) l = let h = counted bs i (omega (arith, l)) in omega (arith, h)
counted (false ∷ bs) (suc i) l = counted bs i (omega (arith, l))

pub count_next : (bs : List Bool) (i count one : ℕ) → i < length bs → one ≡ (if get_or bs i false then 1 else 0) → count ≡ count_of (take i bs) → count + one ≡ count_of (take (i + 1) bs)
count_next bs i count one l is so =
    let next : i + 1 ≡ suc i = omega arith in
    let sum : count + one ≡ count_of (take i bs) + (if get_or bs i false then 1 else 0) = ap (λ n. n + one) so ∙ ap (λ n. count_of (take i bs) + n) is in
    sum ∙ sym (counted bs i l) ∙ ap (λ n. count_of (take n bs)) (sym next)

pub one_at_most : (b : Bool) (one : ℕ) → one ≡ (if b then 1 else 0) → one ≤ 1
one_at_most true one is = omega (arith, is)
one_at_most false one is = omega (arith, is)

take_past : {X : Type 0} (xs : List X) (k : ℕ) → length xs ≤ k → take k xs ≡ xs
take_past [] zero past = refl
take_past [] (suc k) past = refl
take_past (y ∷ ys) zero past = absurd (omega (arith, past))
take_past (y ∷ ys) (suc k) past = ap (λ l. y ∷ l) (take_past ys k (omega (arith, past)))

-- all are counted
pub all_counted : (bs : List Bool) (k : ℕ) → length bs ≤ k → count_of (take k bs) ≡ count_of bs
all_counted bs k past = ap count_of (take_past bs k past)
