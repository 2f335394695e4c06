-- Two majorities share a node, by counting the nodes of both.
use Rattle.std.proofs.Common.{◌≡◌, ◌≢◌, inl, inr, ℕ, zero, suc, ◌+◌, ◌<◌, ◌≤◌, Bool, true, false, cond, List, [], ◌∷◌, length, refl, sym, ap, ◌∙◌, ⊎_elim, arith}
use Rattle.std.specs.Prelude.{nat_eq}
use Rattle.std.proofs.lemmas.Bool.Decides.{nat_tests}
use Rattle.site_ids.specs.Ids.{IsNode}
use Rattle.site_ids.specs.Lists.{In, Distinct}
use Rattle.site_ids.specs.Majorities.{Majority}

-- how many of the nodes 1 to n pass a test
count : (ℕ → Bool) → ℕ → ℕ
count f zero = 0
count f (suc n) = cond (f (suc n)) 1 0 + count f n

count-true : (f : ℕ → Bool) (n : ℕ) → f (suc n) ≡ true → count f (suc n) ≡ 1 + count f n
unfolding count
count-true f n e = ap (λ b. cond b 1 0 + count f n) e

count-false : (f : ℕ → Bool) (n : ℕ) → f (suc n) ≡ false → count f (suc n) ≡ 0 + count f n
unfolding count
count-false f n e = ap (λ b. cond b 1 0 + count f n) e

-- where two tests pass at more than n of the nodes 1 to n, some node passes both
shared : (f g : ℕ → Bool) (n : ℕ) → n < count f n + count g n → (p : ℕ) × (f p ≡ true) × (g p ≡ true)
unfolding count
shared f g zero h = absurd (omega arith)
shared f g (suc n) h =
    let next = shared f g n in
    let go : (a b : Bool) → f (suc n) ≡ a → g (suc n) ≡ b → (p : ℕ) × (f p ≡ true) × (g p ≡ true) =
    λ a b. elim a as (λ a. f (suc n) ≡ a → g (suc n) ≡ b → (p : ℕ) × (f p ≡ true) × (g p ≡ true)) [
      | true ↦ elim b as (λ b. f (suc n) ≡ true → g (suc n) ≡ b → (p : ℕ) × (f p ≡ true) × (g p ≡ true)) [
        | true ↦ λ x y. (suc n, x, y)
        | false ↦ λ x y. next (omega (arith, count-true f n x, count-false g n y))
      ]
      | false ↦ elim b as (λ b. f (suc n) ≡ false → g (suc n) ≡ b → (p : ℕ) × (f p ≡ true) × (g p ≡ true)) [
        | true ↦ λ x y. next (omega (arith, count-false f n x, count-true g n y))
        | false ↦ λ x y. next (omega (arith, count-false f n x, count-false g n y))
      ]
    ]
    in go (f (suc n)) (g (suc n)) refl refl

is_in : List ℕ → ℕ → Bool
is_in [] p = false
is_in (q ∷ qs) p = cond (nat_eq q p) true (is_in qs p)

nat_eq-true : (p q : ℕ) → nat_eq p q ≡ true → p ≡ q
nat_eq-true p q = grind (arith, nat_tests)

nat_eq-same : (p : ℕ) → nat_eq p p ≡ true
nat_eq-same p = grind (arith, nat_tests)

nat_eq-other : (p q : ℕ) → p ≢ q → nat_eq p q ≡ false
nat_eq-other p q = grind (arith, nat_tests)

is_in-In : (qs : List ℕ) (p : ℕ) → is_in qs p ≡ true → In qs p
unfolding is_in
is_in-In [] p e = absurd (cc)
is_in-In (q ∷ qs) p e =
    elim (nat_eq q p) as (λ b. nat_eq q p ≡ b → cond b true (is_in qs p) ≡ true → In (q ∷ qs) p) [
      | true ↦ λ same e. inl (nat_eq-true q p same)
      | false ↦ λ other e. inr (is_in-In qs p e)
    ] refl e

-- tests that differ at p alone count alike below p
count_same : (f g : ℕ → Bool) (p n : ℕ) → ((q : ℕ) → q ≢ p → g q ≡ f q) → n < p → count g n ≡ count f n
unfolding count
count_same f g p zero same low = refl
count_same f g p (suc n) same low = ap (λ b. cond b 1 0 + count g n) (same (suc n) (omega arith)) ∙ ap (λ m. cond (f (suc n)) 1 0 + m) (count_same f g p n same (omega arith))

-- a test that also passes at p counts one more
count_more : (f g : ℕ → Bool) (p n : ℕ) → f p ≡ false → g p ≡ true → ((q : ℕ) → q ≢ p → g q ≡ f q) → 1 ≤ p → p ≤ n → count g n ≡ 1 + count f n
unfolding count
count_more f g p zero off on same low high = absurd (omega arith)
count_more f g p (suc n) off on same low high =
    elim (nat_eq (suc n) p) as (λ b. nat_eq (suc n) p ≡ b → count g (suc n) ≡ 1 + count f (suc n)) [
      | true ↦ λ is. let at : suc n ≡ p = nat_eq-true (suc n) p is in
          let f_at : f (suc n) ≡ false = ap f at ∙ off in
          let g_at : g (suc n) ≡ true = ap g at ∙ on in
          omega (arith, count-false f n f_at, count-true g n g_at, count_same f g p n same (omega arith))
      | false ↦ λ is.
          let apart : suc n ≢ p = λ e. other (suc n) p is e in
          let there = count_more f g p n off on same low (omega arith) in
          ap (λ b. cond b 1 0 + count g n) (same (suc n) apart) ∙ omega (arith, there)
    ] refl
  where
    other : (a b : ℕ) → nat_eq a b ≡ false → a ≡ b → ⊥
    other a b = grind (arith, nat_tests)

-- different nodes of 1 to n are counted by the test that asks for them
counted : (n : ℕ) (ps : List ℕ) → Distinct ps → ((p : ℕ) → In ps p → IsNode n p) → length ps ≤ count (is_in ps) n
unfolding is_in
counted n [] d range = omega arith
counted n (p ∷ ps) d range =
    let more = count_more (is_in ps) (is_in (p ∷ ps)) p n
    (elim (is_in ps p) as (λ b. is_in ps p ≡ b → b ≡ false) [ true ↦ λ e. absurd (d.0 (is_in-In ps p e)) | false ↦ λ e. refl ] refl)
    (ap (λ b. cond b true (is_in ps p)) (nat_eq-same p))
    (λ q apart. ap (λ b. cond b true (is_in ps q)) (nat_eq-other p q (λ e. apart (sym e))))
    (range p (inl refl)).0 (range p (inl refl)).1 in
    let rest = counted n ps d.1 (λ q h. range q (inr h)) in
    omega (arith, more, rest)

-- two majorities share a node
pub share_a_node : (n : ℕ) (ps qs : List ℕ) → Majority n ps → Majority n qs → (p : ℕ) × In ps p × In qs p
share_a_node n ps qs a b =
    let one = counted n ps a.distinct a.nodes in
    let two = counted n qs b.distinct b.nodes in
    let both = shared (is_in ps) (is_in qs) n (omega (arith, a.enough, b.enough, one, two)) in
    (both.0, is_in-In ps both.0 both.1, is_in-In qs both.0 both.2)

-- the nodes n to 1
down : ℕ → List ℕ
down zero = []
down (suc n) = suc n ∷ down n

down-nodes : (n p : ℕ) → In (down n) p → IsNode n p
unfolding down
down-nodes zero p h = absurd h
down-nodes (suc n) p h =
    ⊎_elim (λ (e : suc n ≡ p). (omega arith, omega arith)) (λ (k : In (down n) p). let below : IsNode n p = down-nodes n p k in (below.0, omega (arith, below.1))) h

down-distinct : (n : ℕ) → Distinct (down n)
unfolding down
down-distinct zero = tt
down-distinct (suc n) = (λ h. omega (arith, (down-nodes n (suc n) h).1), down-distinct n)

down-length : (n : ℕ) → length (down n) ≡ n
unfolding down
down-length zero = refl
down-length (suc n) = ap suc (down-length n)

-- all nodes of a cluster are a majority
pub all_are_many : (n : ℕ) → 1 ≤ n → (ps : List ℕ) × Majority n ps
all_are_many n h = (down n, record { distinct = down-distinct n; nodes = down-nodes n; enough = omega (arith, down-length n) })
