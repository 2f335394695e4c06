-- The instances that have an attempt, by the entries of a map in order.
use Rattle.std.proofs.Common.{◌≡◌, ◌≢◌, inl, inr, ⊎_elim, ℕ, ◌+◌, ◌<◌, Option, Some, None, List, [], ◌∷◌, length, refl, sym, ap, subst, arith}
use Rattle.std.specs.Prelude.{◌↔◌, IsSome, unwrap_or}
use Rattle.std.specs.List.{AllByRecursion}
use Rattle.std.specs.List.Sorted.{IsStrictlySortedBy}
use Rattle.std.specs.BTreeMap.{is_at}
use Rattle.std.specs.Map.{keys_of, values_of, lookup}
use Rattle.std.specs.Ordering.{nat_cmp}
use Rattle.std.specs.declared.cmp.Ordering.TheVariants.{Less}
use Rattle.std.proofs.lemmas.Bool.{cases_eq}
use Rattle.std.proofs.lemmas.Bool.Decides.{nat_tests}
use Rattle.std.proofs.lemmas.Map.Entries.{lookup_head, lookup_tail}
use Rattle.std.proofs.lemmas.Map.Keys.{sorted_head, sorted_tail}
use Rattle.site_ids.specs.Lists.{In, Distinct}

less : (k i : ℕ) → nat_cmp k i ≡ Less → k < i
less k i is = grind (arith, nat_tests)

module _ {X : Type 0} where
  abbrev keys_with : ℕ → Option X → List ℕ → List ℕ
  keys_with k None ks = ks
  keys_with k (Some x) ks = k ∷ ks

  -- the keys of values that are there
  abbrev pub open_keys : List (ℕ × Option X) → List ℕ
  open_keys [] = []
  open_keys (e ∷ es) = keys_with e.0 e.1 (open_keys es)

  abbrev pub count_some : List (Option X) → ℕ
  count_some [] = 0
  count_some (None ∷ vs) = count_some vs
  count_some (Some x ∷ vs) = 1 + count_some vs

  abbrev pub at : ℕ → List (ℕ × Option X) → Option X
  at i es = unwrap_or (lookup (is_at (nat_cmp i)) es) None

  counted_with : (k : ℕ) (o : Option X) (ks : List ℕ) (vs : List (Option X)) → length ks ≡ count_some vs → length (keys_with k o ks) ≡ count_some (o ∷ vs)
  counted_with k None ks vs is = is
  counted_with k (Some x) ks vs is = omega arith

  pub all_counted : (es : List (ℕ × Option X)) → length (open_keys es) ≡ count_some (values_of es)
  all_counted [] = refl
  all_counted (e ∷ es) = counted_with e.0 e.1 (open_keys es) (values_of es) (all_counted es)

  above_with : (j k : ℕ) (o : Option X) (ks : List ℕ) (i : ℕ) → nat_cmp j k ≡ Less → (In ks i → j < i) → In (keys_with k o ks) i → j < i
  above_with j k None ks i here rest h = rest h
  above_with j k (Some x) ks i here rest h = ⊎_elim (λ (e : k ≡ i). subst (λ (n : ℕ). j < n) e (less j k here)) rest h

  pub above : (j : ℕ) (es : List (ℕ × Option X)) (i : ℕ) → AllByRecursion (λ y. nat_cmp j y ≡ Less) (keys_of es) → In (open_keys es) i → j < i
  above j [] i all h = absurd h
  above j (e ∷ es) i all h = above_with j e.0 e.1 (open_keys es) i all.0 (above j es i all.1) h

  distinct_with : (k : ℕ) (o : Option X) (ks : List ℕ) → ((i : ℕ) → In ks i → k < i) → Distinct ks → Distinct (keys_with k o ks)
  distinct_with k None ks up d = d
  distinct_with k (Some x) ks up d = ((λ h. omega (arith, up k h)), d)

  pub all_distinct : (es : List (ℕ × Option X)) → IsStrictlySortedBy nat_cmp (keys_of es) → Distinct (open_keys es)
  all_distinct [] sorted = tt
  all_distinct (e ∷ es) sorted =
      let up : (i : ℕ) → In (open_keys es) i → e.0 < i = λ i. above e.0 es i (sorted_head nat_cmp e.0 (keys_of es) sorted) in
      distinct_with e.0 e.1 (open_keys es) up (all_distinct es (sorted_tail nat_cmp e.0 (keys_of es) sorted))

  pub at_here : (i : ℕ) (e : ℕ × Option X) (es : List (ℕ × Option X)) → i ≡ e.0 → at i (e ∷ es) ≡ e.1
  at_here i e es same = ap (λ (o : Option (Option X)). unwrap_or o None) (lookup_head (is_at (nat_cmp i)) e es (grind (arith, nat_tests)))

  pub at_rest : (i : ℕ) (e : ℕ × Option X) (es : List (ℕ × Option X)) → i ≢ e.0 → at i (e ∷ es) ≡ at i es
  at_rest i e es other = ap (λ (o : Option (Option X)). unwrap_or o None) (lookup_tail (is_at (nat_cmp i)) e es (grind (arith, nat_tests)))

  here_with : (k : ℕ) (o : Option X) (ks : List ℕ) → ((i : ℕ) → In ks i → k < i) → In (keys_with k o ks) k ↔ IsSome o
  here_with k None ks up = (λ h. absurd (omega (arith, up k h)), λ some. cc)
  here_with k (Some x) ks up = (λ h. refl, λ some. inl refl)

  rest_with : (k : ℕ) (o : Option X) (ks : List ℕ) (i : ℕ) → i ≢ k → In (keys_with k o ks) i ↔ In ks i
  rest_with k None ks i other = (λ h. h, λ h. h)
  rest_with k (Some x) ks i other = (λ h. ⊎_elim (λ (e : k ≡ i). absurd (other (sym e))) (λ r. r) h, λ h. inr h)

  pub all_found : (es : List (ℕ × Option X)) → IsStrictlySortedBy nat_cmp (keys_of es) → (i : ℕ) → In (open_keys es) i ↔ IsSome (at i es)
  all_found [] sorted i = (λ h. absurd h, λ some. cc)
  all_found (e ∷ es) sorted i =
      let up : (i : ℕ) → In (open_keys es) i → e.0 < i = λ i. above e.0 es i (sorted_head nat_cmp e.0 (keys_of es) sorted) in
      let here = here_with e.0 e.1 (open_keys es) up in
      let rest = all_found es (sorted_tail nat_cmp e.0 (keys_of es) sorted) i in
      ⊎_elim
      (λ (same : i ≡ e.0).
      subst (λ (o : Option X). In (open_keys (e ∷ es)) i ↔ IsSome o) (sym (at_here i e es same)) (subst (λ (n : ℕ). In (open_keys (e ∷ es)) n ↔ IsSome e.1) (sym same) here))
      (λ (other : i ≢ e.0).
      let with_it = rest_with e.0 e.1 (open_keys es) i other in
      subst (λ (o : Option X). In (open_keys (e ∷ es)) i ↔ IsSome o) (sym (at_rest i e es other)) (λ h. rest.0 (with_it.0 h), λ some. with_it.1 (rest.1 some)))
      (cases_eq i e.0)
