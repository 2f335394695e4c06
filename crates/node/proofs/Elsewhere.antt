-- Open attempts but that at one instance, counted.
use Rattle.std.proofs.Common.{◌≡◌, ◌≢◌, ◌⊎◌, inl, inr, ⊎_elim, ℕ, suc, ◌<◌, ◌≤◌, ◌-◌, nat_eq, Bool, true, false, Option, Some, None, List, [], ◌∷◌, map, length, refl, sym, ap, subst, ◌∙◌, arith}
use Rattle.std.specs.Prelude.{IsSome}
use Rattle.std.proofs.lemmas.Bool.Decides.{nat_tests}
use Rattle.site_ids.specs.Lists.{In, Distinct}
use Rattle.site_ids.proofs.MemberLemmas.{distinct_within}
use Rattle.proposer.specs.Attempts.{Attempt, AreOpen}
use Rattle.node.specs.Nodes.{Node, IsFirstUnknown}
use Rattle.node.specs.Tidy.{IsTidy}
use Rattle.node.specs.Calls.{RisesFrom, AreOpenElsewhere}
use Rattle.node.proofs.Windows.{few_elsewhere}

either_of : (j k : ℕ) (b : Bool) → nat_eq j k ≡ b → (j ≡ k) ⊎ (j ≢ k)
either_of j k true is = inl (grind (arith, nat_tests))
either_of j k false is = inr (λ e. grind (arith, nat_tests))

either : (j k : ℕ) → (j ≡ k) ⊎ (j ≢ k)
either j k = either_of j k (nat_eq j k) refl

in_map : {X Y : Type 0} (f : X → Y) (xs : List X) (y : Y) → In (map f xs) y → (x : X) × In xs x × (f x ≡ y)
in_map f [] y h = absurd h
in_map f (x ∷ xs) y h = ⊎_elim (λ e. (x, inl refl, e)) (λ k. let r = in_map f xs y k in (r.0, inr r.1, r.2)) h

instances : List (ℕ × Attempt) → List ℕ
instances xs = map (λ x. x.0) xs

over : (low : ℕ) (xs : List (ℕ × Attempt)) → RisesFrom low xs → (j : ℕ) → In (instances xs) j → low < j
unfolding instances
over low [] rising j k = absurd k
over low (x ∷ xs) rising j k = let a = rising.0 in ⊎_elim (λ (e : x.0 ≡ j). omega (arith, a, e)) (λ k. let r = over x.0 xs rising.1 j k in omega (arith, r, a)) k

not_itself : (a : ℕ) → a < a → ⊥
not_itself a h = omega (arith, h)

each_once : (low : ℕ) (xs : List (ℕ × Attempt)) → RisesFrom low xs → Distinct (instances xs)
unfolding instances
each_once low [] rising = tt
each_once low (x ∷ xs) rising = ((λ k. not_itself x.0 (over x.0 xs rising.1 x.0 k)), each_once x.0 xs rising.1)

as_many : (xs : List (ℕ × Attempt)) → length (instances xs) ≡ length xs
unfolding instances
as_many [] = refl
as_many (x ∷ xs) = let r = as_many xs in omega (arith, r)

in_instances : (xs : List (ℕ × Attempt)) (j : ℕ) (a : Attempt) → In xs (j, a) → In (instances xs) j
unfolding instances
in_instances [] j a k = absurd k
in_instances (x ∷ xs) j a k = ⊎_elim (λ (e : x ≡ (j, a)). inl (ap (λ (y : ℕ × Attempt). y.0) e)) (λ k. inr (in_instances xs j a k)) k

of_instances : (xs : List (ℕ × Attempt)) (j : ℕ) → In (instances xs) j → (x : ℕ × Attempt) × In xs x × (x.0 ≡ j)
unfolding instances
of_instances xs j k = in_map (λ (x : ℕ × Attempt). x.0) xs j k

the_attempt : (o : Option Attempt) → IsSome o → (a : Attempt) × (o ≡ Some a)
the_attempt None is = absurd (cc)
the_attempt (Some a) is = (a, refl)

is_there : (o : Option Attempt) (a : Attempt) → o ≡ Some a → IsSome o
is_there o a e = subst (λ x. IsSome x) (sym e) refl

no_attempt : (a : Attempt) → ◌≡◌ {A = Option Attempt} None (Some a) → ⊥
no_attempt a e = cc

module _ (s : Node) (i count : ℕ) (xs : List (ℕ × Attempt)) (are : AreOpenElsewhere s i xs) (open_there : AreOpen s.attempts count) where
  listed : (j : ℕ) → j ≢ i → In open_there.instances j → In (instances xs) j
  listed j apart k = let a = the_attempt (s.attempts j) ((open_there.open_there j).0 k) in in_instances xs j a.0 (are.whole j a.0 apart a.1)

  unlisted : (j : ℕ) → In (instances xs) j → In open_there.instances j × (j ≢ i)
  unlisted j k =
      let x = of_instances xs j k in
      let h = are.each x.0 x.1 in
      ((open_there.open_there j).1 (is_there (s.attempts j) x.0.1 (subst (λ y. s.attempts y ≡ Some x.0.1) x.2 h.1)), λ e. h.0 (x.2 ∙ e))

  -- without an attempt at the instance all open ones are elsewhere
  pub all_elsewhere : s.attempts i ≡ None → length xs ≡ count
  all_elsewhere none =
      let up = distinct_within (instances xs) open_there.instances (each_once 0 xs are.rising) (λ j k. (unlisted j k).0) in
      let down = distinct_within open_there.instances (instances xs) open_there.distinct
      (λ j k. listed j (λ e. let a = the_attempt (s.attempts j) ((open_there.open_there j).0 k) in no_attempt a.0 (sym none ∙ subst (λ y. s.attempts y ≡ Some a.0) e a.1)) k) in
      let same = as_many xs in
      let c = open_there.counted in
      omega (arith, up, down, same, c)

  -- with one, all but that
  pub all_but_one : (a : Attempt) → s.attempts i ≡ Some a → suc (length xs) ≡ count
  all_but_one a at =
      let up = distinct_within (i ∷ instances xs) open_there.instances ((λ k. (unlisted i k).1 refl), each_once 0 xs are.rising)
      (λ j k. ⊎_elim (λ (e : i ≡ j). subst (λ y. In open_there.instances y) e ((open_there.open_there i).1 (is_there (s.attempts i) a at))) (λ k. (unlisted j k).0) k) in
      let down = distinct_within open_there.instances (i ∷ instances xs) open_there.distinct (λ j k. ⊎_elim (λ (e : j ≡ i). inl (sym e)) (λ apart. inr (listed j apart k)) (either j i)) in
      let same = as_many xs in
      let c = open_there.counted in
      omega (arith, up, down, same, c)

-- as a byte, one less if an attempt is open at the first unknown instance
pub tried_elsewhere : (s : Node) (i count here : ℕ) (xs : List (ℕ × Attempt)) → IsTidy s → IsFirstUnknown s.known i → AreOpenElsewhere s i xs → AreOpen s.attempts count
    → (IsSome (s.attempts i) → here ≡ 1) → (s.attempts i ≡ None → here ≡ 0) → (length xs ≡ count - here) × (length xs ≤ 63)
tried_elsewhere s i count here xs tidy first are open_there some none = by_attempt (s.attempts i) refl
  where
    few : length xs ≤ 63
    few = few_elsewhere s i xs tidy first are

    by_attempt : (o : Option Attempt) → s.attempts i ≡ o → (length xs ≡ count - here) × (length xs ≤ 63)
    by_attempt None is = let all = all_elsewhere s i count xs are open_there is in let h = none is in (omega (arith, all, h), few)
    by_attempt (Some a) is = let all = all_but_one s i count xs are open_there a is in let h = some (is_there (s.attempts i) a is) in (omega (arith, all, h), few)
