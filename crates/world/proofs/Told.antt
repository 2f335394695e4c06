-- What a computation can decide: it holds or it does not.
use Rattle.std.proofs.Common.{◌≡◌, ◌≢◌, ◌⊎◌, inl, inr, ℕ, zero, suc, ◌+◌, ◌/◌, ◌≤◌, ◌<◌, true, false, List, [], ◌∷◌, length, refl, sym, ap, subst, ⊎_elim, arith}
use Rattle.std.specs.Prelude.{nat_eq, nat_le}
use Rattle.std.proofs.lemmas.Bool.Decides.{nat_tests}
use Rattle.site_ids.specs.Ids.{BallotOf, Below, NotAbove, IsNode}
use Rattle.site_ids.specs.Lists.{In, Distinct}
use Rattle.site_ids.specs.Majorities.{Majority}
use Rattle.site_ids.proofs.MemberLemmas.{distinct_within}
use Rattle.node.specs.Nodes.{Value}
use Rattle.world.proofs.Lists.{same_number, other_number}

abbrev pub Told : Type 0 → Type 0
Told P = P ⊎ (¬ P)

abbrev pub both : {P Q : Type 0} → Told P → Told Q → Told (P × Q)
both (inl p) (inl q) = inl (p, q)
both (inl p) (inr no_q) = inr (λ x. no_q x.1)
both (inr no_p) q = inr (λ x. no_p x.0)

abbrev pub otherwise : {P : Type 0} → Told P → Told (¬ P)
otherwise (inl p) = inr (λ none. none p)
otherwise (inr no_p) = inl no_p

abbrev pub IsSo : {P : Type 0} → Told P → Type 0
IsSo (inl p) = Unit {0}
IsSo (inr no_p) = ⊥

abbrev pub the_told : {P : Type 0} (told : Told P) → IsSo told → P
the_told (inl p) so = p
the_told (inr no_p) so = absurd so

-- ---- numbers, ballots, values

abbrev pub numbers : (a b : ℕ) → Told (a ≡ b)
numbers a b = elim (nat_eq a b) as (λ t. nat_eq a b ≡ t → Told (a ≡ b)) [ true ↦ λ is. inl (same_number a b is) | false ↦ λ is. inr (other_number a b is) ] refl

pub at_most : (a b : ℕ) → nat_le a b ≡ true → a ≤ b
at_most a b is = grind (arith, nat_tests)

pub above : (a b : ℕ) → nat_le a b ≡ false → b < a
above a b is = grind (arith, nat_tests)

abbrev pub order : (a b : ℕ) → (a ≤ b) ⊎ (b < a)
order a b = elim (nat_le a b) as (λ t. nat_le a b ≡ t → (a ≤ b) ⊎ (b < a)) [ true ↦ λ is. inl (at_most a b is) | false ↦ λ is. inr (above a b is) ] refl

pub not_over : (a b : ℕ) → b < a → ¬ (a ≤ b)
not_over a b over is = omega (arith, over, is)

abbrev pub no_more : (a b : ℕ) → Told (a ≤ b)
no_more a b = elim (order a b) [ inl is ↦ inl is | inr over ↦ inr (not_over a b over) ]

pub same_ballot : (a b : BallotOf) → a.round ≡ b.round → a.node ≡ b.node → a ≡ b
same_ballot a b r s = λ i. record { round = r i; node = s i }

pub round_of : (a b : BallotOf) → a.round ≢ b.round → a ≢ b
round_of a b apart e = apart (ap (λ (x : BallotOf). x.round) e)

pub maker_of : (a b : BallotOf) → a.node ≢ b.node → a ≢ b
maker_of a b apart e = apart (ap (λ (x : BallotOf). x.node) e)

abbrev pub ballots : (a b : BallotOf) → Told (a ≡ b)
ballots a b = elim (numbers a.round b.round) [
  | inl r ↦ elim (numbers a.node b.node) [ inl s ↦ inl (same_ballot a b r s) | inr apart ↦ inr (maker_of a b apart) ]
  | inr apart ↦ inr (round_of a b apart)
]

pub beyond : (a b : BallotOf) → a.round ≢ b.round → ¬ (a.round < b.round) → Below b a
beyond a b apart none = grind (arith, apart, none)

-- the order of ballots
abbrev pub ballot_order : (a b : BallotOf) → NotAbove a b ⊎ Below b a
ballot_order a b = elim (numbers a.round b.round) [
  | inl r ↦ elim (order a.node b.node) [ inl s ↦ inl (inr (r, s)) | inr over ↦ inr (inr (sym r, over)) ]
  | inr apart ↦ elim (no_more (suc a.round) b.round) [ inl r ↦ inl (inl r) | inr none ↦ inr (beyond a b apart none) ]
]

pub same_value : (x y : ℕ) (xs ys : Value) → x ≡ y → xs ≡ ys → x ∷ xs ≡ y ∷ ys
same_value x y xs ys h t = λ i. h i ∷ t i

pub other_head : (x y : ℕ) (xs ys : Value) → x ≢ y → x ∷ xs ≢ y ∷ ys
other_head x y xs ys apart e = apart (heads e)
  where
    heads : x ∷ xs ≡ y ∷ ys → x ≡ y
    heads e = cc

pub other_tail : (x y : ℕ) (xs ys : Value) → xs ≢ ys → x ∷ xs ≢ y ∷ ys
other_tail x y xs ys apart e = apart (tails e)
  where
    tails : x ∷ xs ≡ y ∷ ys → xs ≡ ys
    tails e = cc

pub longer : (y : ℕ) (ys : Value) → [] ≢ y ∷ ys
longer y ys e = cc

pub shorter : (x : ℕ) (xs : Value) → x ∷ xs ≢ []
shorter x xs e = cc

abbrev pub values : (xs ys : Value) → Told (xs ≡ ys)
values [] [] = inl refl
values [] (y ∷ ys) = inr (longer y ys)
values (x ∷ xs) [] = inr (shorter x xs)
values (x ∷ xs) (y ∷ ys) = elim (numbers x y) [
  | inl h ↦ elim (values xs ys) [ inl t ↦ inl (same_value x y xs ys h t) | inr apart ↦ inr (other_tail x y xs ys apart) ]
  | inr apart ↦ inr (other_head x y xs ys apart)
]

-- ---- members and majorities

abbrev pub among : {X : Type 0} → ((x y : X) → Told (x ≡ y)) → (xs : List X) (x : X) → Told (In xs x)
among same [] x = inr (λ k. k)
among same (y ∷ xs) x = elim (same y x) [
  | inl e ↦ inl (inl e)
  | inr apart ↦ elim (among same xs x) [ inl k ↦ inl (inr k) | inr none ↦ inr (λ k. ⊎_elim apart none k) ]
]

abbrev pub distinct : (xs : List ℕ) → Told (Distinct xs)
distinct [] = inl tt
distinct (x ∷ xs) = both (otherwise (among numbers xs x)) (distinct xs)

abbrev pub is_node : (n p : ℕ) → Told (IsNode n p)
is_node n p = both (no_more 1 p) (no_more p n)

pub one_more_node : (n p : ℕ) (ps : List ℕ) → IsNode n p → ((q : ℕ) → In ps q → IsNode n q) → (q : ℕ) → In (p ∷ ps) q → IsNode n q
one_more_node n p ps node nodes q k = ⊎_elim (λ (e : p ≡ q). subst (IsNode n) e node) (λ k. nodes q k) k

abbrev pub all_nodes : (n : ℕ) (ps : List ℕ) → Told ((p : ℕ) → In ps p → IsNode n p)
all_nodes n [] = inl (λ p k. absurd k)
all_nodes n (p ∷ ps) = elim (is_node n p) [
  | inl node ↦ elim (all_nodes n ps) [ inl nodes ↦ inl (one_more_node n p ps node nodes) | inr none ↦ inr (λ all. none (λ q k. all q (inr k))) ]
  | inr outside ↦ inr (λ all. outside (all p (inl refl)))
]

abbrev pub majority : (n : ℕ) (ps : List ℕ) → Told (Majority n ps)
majority n ps = elim (both (distinct ps) (both (all_nodes n ps) (no_more (n / 2 + 1) (length ps)))) [
  | inl x ↦ inl (record { distinct = x.0; nodes = x.1.0; enough = x.1.1 })
  | inr none ↦ inr (λ m. none (m.distinct, (m.nodes, m.enough)))
]

-- ---- a majority of which each node has something

module _ (P : ℕ → Type 0) (tells : (p : ℕ) → Told (P p)) where
  -- those of the nodes 1 to n that have it, each once
  pub record Having (n : ℕ) : Type 0 where
    pub nodes : List ℕ
    pub distinct : Distinct nodes
    pub each : (p : ℕ) → In nodes p → IsNode n p × P p
    pub whole : (p : ℕ) → IsNode n p → P p → In nodes p

  pub no_node : (p : ℕ) → ¬ IsNode 0 p
  no_node p is = omega (arith, is.0, is.1)

  pub unlisted : (n : ℕ) (up : Having n) → ¬ In up.nodes (suc n)
  unlisted n up k = let high : suc n ≤ n = (up.each (suc n) k).0.1 in omega arith

  pub each_one : (n : ℕ) (up : Having n) → P (suc n) → (p : ℕ) → In (suc n ∷ up.nodes) p → IsNode (suc n) p × P p
  each_one n up h p k = ⊎_elim (λ (e : suc n ≡ p). ((omega (arith, e), omega (arith, e)), subst P e h)) (λ k. let x = up.each p k in ((x.0.0, let low : p ≤ n = x.0.1 in omega arith), x.1)) k

  pub whole_with : (n : ℕ) (up : Having n) → (p : ℕ) → IsNode (suc n) p → P p → In (suc n ∷ up.nodes) p
  whole_with n up p is k = ⊎_elim (λ (e : p ≡ suc n). inl (sym e)) (λ apart. inr (up.whole p (is.0, let high : p ≤ suc n = is.1 in omega arith) k)) (numbers p (suc n))

  pub each_below : (n : ℕ) (up : Having n) → (p : ℕ) → In up.nodes p → IsNode (suc n) p × P p
  each_below n up p k = let x = up.each p k in ((x.0.0, let low : p ≤ n = x.0.1 in omega arith), x.1)

  pub whole_without : (n : ℕ) (up : Having n) → ¬ P (suc n) → (p : ℕ) → IsNode (suc n) p → P p → In up.nodes p
  whole_without n up none p is k = up.whole p (is.0, low is.1 (λ e. none (subst P e k))) k
    where
      low : p ≤ suc n → p ≢ suc n → p ≤ n
      low h apart = omega arith

  abbrev pub having : (n : ℕ) → Having n
  having zero = record { nodes = []; distinct = tt; each = λ p h. absurd h; whole = λ p is h. absurd (no_node p is) }
  having (suc n) =
      let up = having n in
      elim (tells (suc n)) [
        | inl h ↦ record { nodes = suc n ∷ up.nodes; distinct = (unlisted n up, up.distinct); each = each_one n up h; whole = whole_with n up }
        | inr none ↦ record { nodes = up.nodes; distinct = up.distinct; each = each_below n up; whole = whole_without n up none }
      ]

  -- a majority has it
  abbrev pub AreMany : ℕ → Type 0
  AreMany n = (ps : List ℕ) × Majority n ps × ((p : ℕ) → In ps p → P p)

  pub are_few : (n : ℕ) (up : Having n) → ¬ (n / 2 + 1 ≤ length up.nodes) → ¬ AreMany n
  are_few n up few d =
      let most : length d.0 ≤ length up.nodes = distinct_within d.0 up.nodes d.1.distinct (λ p k. up.whole p (d.1.nodes p k) (d.2 p k)) in
      let many : n / 2 + 1 ≤ length d.0 = d.1.enough in
      few (omega (arith, most, many))

  abbrev pub are_many : (n : ℕ) → Told (AreMany n)
  are_many n =
      let up = having n in
      elim (no_more (n / 2 + 1) (length up.nodes)) [
        | inl enough ↦ inl (up.nodes, record { distinct = up.distinct; nodes = λ p k. (up.each p k).0; enough = enough }, λ p k. (up.each p k).1)
        | inr few ↦ inr (are_few n up few)
      ]
