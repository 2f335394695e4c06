-- Which values the open attempts have as their own, by the entries of a map in order.
use Rattle.std.proofs.Common.{◌≡◌, ◌≢◌, inl, inr, ⊎_elim, ℕ, Bool, true, false, Option, Some, None, List, [], ◌∷◌, refl, sym, subst, ◌∙◌, arith, rules}
use Rattle.std.specs.Prelude.{◌↔◌, IsSome, IsTrue}
use Rattle.std.specs.List.Sorted.{IsStrictlySortedBy}
use Rattle.std.specs.Map.{keys_of, values_of}
use Rattle.std.specs.Ordering.{nat_cmp}
use Rattle.std.proofs.lemmas.Bool.{cases_eq}
use Rattle.std.proofs.lemmas.Map.Keys.{sorted_head, sorted_tail}
use Rattle.site_ids.specs.Lists.{In}
use Rattle.proposer.specs.declared.open_attempt.OpenAttempt.{OpenAttempt}
use Rattle.proposer.specs.declared.proposer.Proposer.{Proposer}
use Rattle.proposer.specs.Attempts.{Attempt}
use Rattle.proposer.specs.Standing.{StandsForAny, Attempting}
use Rattle.proposer.proofs.CountingOpen.{at, above, at_here, at_rest, all_found}

-- ---- the values of a map that are there

module _ {X : Type 0} where
  pub value_there : (es : List (ℕ × Option X)) → IsStrictlySortedBy nat_cmp (keys_of es) → (x : X) → In (values_of es) (Some x) → (i : ℕ) × (at i es ≡ Some x)
  value_there [] sorted x h = absurd h
  value_there (e ∷ es) sorted x h =
      let ordered = sorted_tail nat_cmp e.0 (keys_of es) sorted in
      ⊎_elim
      (λ (here : e.1 ≡ Some x). (e.0, at_here e.0 e es refl ∙ here))
      (λ (later : In (values_of es) (Some x)).
      let rest = value_there es ordered x later in
      let some : IsSome (at rest.0 es) = subst (λ (o : Option X). IsSome o) (sym rest.1) refl in
      let up = above e.0 es rest.0 (sorted_head nat_cmp e.0 (keys_of es) sorted) ((all_found es ordered rest.0).1 some) in
      (rest.0, at_rest rest.0 e es (λ same. omega (arith, up, same)) ∙ rest.1))
      h

  pub value_of : (es : List (ℕ × Option X)) (i : ℕ) (x : X) → at i es ≡ Some x → In (values_of es) (Some x)
  value_of [] i x is = absurd (cc)
  value_of (e ∷ es) i x is = ⊎_elim (λ (same : i ≡ e.0). inl (sym (at_here i e es same) ∙ is)) (λ (other : i ≢ e.0). inr (value_of es i x (sym (at_rest i e es other) ∙ is))) (cases_eq i e.0)

-- ---- an attempt with this value as its own

-- what is kept of one
abbrev pub Tries : List (Option OpenAttempt) → List ℕ → Type 0
Tries kept v = (a : OpenAttempt) × In kept (Some a) × (a.own ≡ v)

stands_own : (n : ℕ) (kept : OpenAttempt) (o : Option Attempt) (v : List ℕ) → StandsForAny n (Some kept) o → kept.own ≡ v → (a : Attempt) × (o ≡ Some a) × (a.own ≡ v)
stands_own n kept None v stands own = absurd stands
stands_own n kept (Some a) v stands own = (a, refl, sym stands.own ∙ own)

kept_own : (n : ℕ) (o : Option OpenAttempt) (a : Attempt) (v : List ℕ) → StandsForAny n o (Some a) → a.own ≡ v → (kept : OpenAttempt) × (o ≡ Some kept) × (kept.own ≡ v)
kept_own n None a v stands own = absurd stands
kept_own n (Some kept) a v stands own = (kept, refl, stands.own ∙ own)

pub tried : (proposer : Proposer) (attempts : ℕ → Option Attempt) (v : List ℕ) → IsStrictlySortedBy nat_cmp (keys_of proposer.attempts.entries) → Attempting proposer attempts
    → Tries (values_of proposer.attempts.entries) v ↔ ((i : ℕ) × (a : Attempt) × (attempts i ≡ Some a) × (a.own ≡ v))
tried proposer attempts v ordered are = (
  λ t.
      let place = value_there proposer.attempts.entries ordered t.0 t.1 in
      let mine = stands_own proposer.cluster t.0 (attempts place.0) v (subst (λ (o : Option OpenAttempt). StandsForAny proposer.cluster o (attempts place.0)) place.1 (are place.0)) t.2 in
      (place.0, mine.0, mine.1, mine.2),
  λ t.
      let mine = kept_own proposer.cluster (at t.0 proposer.attempts.entries) t.1 v (subst (λ (o : Option Attempt). StandsForAny proposer.cluster (at t.0 proposer.attempts.entries) o) t.2 (are t.0)) t.3 in
      (mine.0, value_of proposer.attempts.entries t.0 mine.0 mine.1, mine.2),
)

-- ---- one looked at after the other

pub not_here : (attempt : Option OpenAttempt) (rest kept : List (Option OpenAttempt)) (v : List ℕ) → kept ≡ attempt ∷ rest → ¬ ((a : OpenAttempt) × (attempt ≡ Some a) × (a.own ≡ v)) → Tries kept v → Tries rest v
not_here attempt rest kept v is none t =
    let at : In (attempt ∷ rest) (Some t.0) = subst (λ (l : List (Option OpenAttempt)). In l (Some t.0)) is t.1 in
    (t.0, ⊎_elim (λ (e : attempt ≡ Some t.0). absurd (none (t.0, e, t.2))) (λ later. later) at, t.2)

pub still_kept : (attempt : Option OpenAttempt) (rest kept : List (Option OpenAttempt)) (v : List ℕ) → kept ≡ attempt ∷ rest → Tries rest v → Tries kept v
still_kept attempt rest kept v is t = (t.0, subst (λ (l : List (Option OpenAttempt)). In l (Some t.0)) (sym is) (inr t.1), t.2)

pub found_here : (attempt : Option OpenAttempt) (rest kept : List (Option OpenAttempt)) (v : List ℕ) → kept ≡ attempt ∷ rest → (a : OpenAttempt) × (attempt ≡ Some a) × (a.own ≡ v) → Tries kept v
found_here attempt rest kept v is t = (t.0, subst (λ (l : List (Option OpenAttempt)). In l (Some t.0)) (sym is) (inl t.1), t.2)

pub none_left : (kept : List (Option OpenAttempt)) (v : List ℕ) → kept ≡ [] → ¬ Tries kept v
none_left kept v is t = absurd (subst (λ (l : List (Option OpenAttempt)). In l (Some t.0)) is t.1)

pub all_to_come : (kept all : List (Option OpenAttempt)) (v : List ℕ) → kept ≡ all → Tries kept v ↔ Tries all v
all_to_come kept all v is = subst (λ (l : List (Option OpenAttempt)). Tries kept v ↔ Tries l v) is (λ t. t, λ t. t)

-- ---- tests

pub is_true : (b : Bool) → b ≡ true → IsTrue b
is_true true e = search rules
is_true false e = absurd (cc)

pub true_is : (b : Bool) → IsTrue b → b ≡ true
true_is true t = refl
true_is false t = absurd (search (rules, t))

pub same_attempt : (a b : OpenAttempt) → Some a ≡ Some b → a ≡ b
same_attempt a b is = cc
