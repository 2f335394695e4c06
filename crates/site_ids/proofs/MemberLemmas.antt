-- Members of lists.
use Rattle.std.proofs.Common.{◌≡◌, ◌≢◌, ◌⊎◌, inl, inr, ℕ, zero, suc, ◌≤◌, Some, List, [], ◌∷◌, ◌++◌, length, refl, sym, ap, subst, ◌∙◌, ⊎_elim, arith}
use Rattle.std.specs.Prelude.{slice_get}
use Rattle.site_ids.specs.Lists.{In, Distinct}

pub in_left : {X : Type 0} (xs ys : List X) (x : X) → In xs x → In (xs ++ ys) x
in_left [] ys x h = absurd h
in_left (y ∷ xs) ys x h = ⊎_elim (λ e. inl e) (λ k. inr (in_left xs ys x k)) h

pub in_right : {X : Type 0} (xs ys : List X) (x : X) → In ys x → In (xs ++ ys) x
in_right [] ys x h = h
in_right (y ∷ xs) ys x h = inr (in_right xs ys x h)

pub in_split : {X : Type 0} (xs ys : List X) (x : X) → In (xs ++ ys) x → In xs x ⊎ In ys x
in_split [] ys x h = inr h
in_split (y ∷ xs) ys x h = ⊎_elim (λ e. inl (inl e)) (λ k. ⊎_elim (λ a. inl (inr a)) (λ b. inr b) (in_split xs ys x k)) h

pub in_last : {X : Type 0} (xs : List X) (x : X) → In (xs ++ x ∷ []) x
in_last xs x = in_right xs (x ∷ []) x (inl refl)

pub in_push : {X : Type 0} (xs : List X) (y x : X) → In (xs ++ y ∷ []) x → In xs x ⊎ (y ≡ x)
in_push xs y x h = ⊎_elim (λ a. inl a) (λ (b : In (y ∷ []) x). ⊎_elim (λ e. inr e) (λ k. absurd k) b) (in_split xs (y ∷ []) x h)

pub in_get : {X : Type 0} (xs : List X) (k : ℕ) (x : X) → slice_get xs k ≡ Some x → In xs x
in_get [] k x e = absurd (cc)
in_get (y ∷ xs) zero x e = inl (cc)
in_get (y ∷ xs) (suc k) x e = inr (in_get xs k x e)

-- a list without one of its members is one shorter
without : {X : Type 0} (ys : List X) (x : X) → In ys x → (zs : List X) × (length ys ≡ suc (length zs)) × ((y : X) → In ys y → y ≢ x → In zs y)
without [] x h = absurd h
without {X} (y ∷ ys) x h =
    let rest : In ys x → (zs : List X) × (length ys ≡ suc (length zs)) × ((z : X) → In ys z → z ≢ x → In zs z) = without ys x in
    ⊎_elim
    (λ (e : y ≡ x). (ys, refl, λ z k apart. ⊎_elim (λ (f : y ≡ z). absurd (apart (sym f ∙ e))) (λ m. m) k))
    (λ (k : In ys x). let r = rest k in (y ∷ r.0, ap suc r.1, λ z m apart. ⊎_elim (λ f. inl f) (λ m. inr (r.2 z m apart)) m))
    h

-- different members of a list are no more than it has
pub distinct_within : {X : Type 0} (xs ys : List X) → Distinct xs → ((x : X) → In xs x → In ys x) → length xs ≤ length ys
distinct_within [] ys d within = omega arith
distinct_within (x ∷ xs) ys d within =
    let r = without ys x (within x (inl refl)) in
    let shorter = distinct_within xs r.0 d.1 (λ y h. r.2 y (within y (inr h)) (λ e. d.0 (subst (In xs) e h))) in
    omega (arith, r.1, shorter)

pub distinct_push : {X : Type 0} (xs : List X) (y : X) → Distinct xs → ¬ In xs y → Distinct (xs ++ y ∷ [])
distinct_push [] y d apart = (λ h. h, tt)
distinct_push (x ∷ xs) y d apart = (λ h. ⊎_elim d.0 (λ (e : y ≡ x). apart (inl (sym e))) (in_push xs y x h), distinct_push xs y d.1 (λ k. apart (inr k)))
