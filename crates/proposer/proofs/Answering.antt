-- An attempt after an answer that counts.
use Rattle.std.proofs.Common.{◌≡◌, inl, inr, ℕ, ◌+◌, ◌/◌, ◌<◌, ◌≤◌, Bool, true, false, Option, Some, None, List, [], ◌∷◌, ◌++◌, length, refl, rules, sym, ap, subst, ◌∙◌, ⊎_elim, arith}
use Rattle.std.specs.Prelude.{if◌then◌else◌, IsTrue, ◌↔◌, ◌||◌}
use Rattle.std.proofs.lemmas.Bool.{eqb-true}
use Rattle.std.proofs.lemmas.Bool.Decides.{nat_tests}
use Rattle.std.proofs.Math.Dec.{eqb}
use Rattle.std.specs.List.{list_any}
use Rattle.std.proofs.lemmas.List.{map-append, length_push}
use Rattle.site_ids.specs.Ids.{BallotOf, IsNode}
use Rattle.site_ids.specs.Lists.{In, Distinct}
use Rattle.site_ids.specs.Majorities.{Majority}
use Rattle.site_ids.specs.declared.value.Vote.{Vote}
use Rattle.site_ids.proofs.MemberLemmas.{in_push, distinct_push}
use Rattle.proposer.specs.declared.open_attempt.OpenAttempt.{OpenAttempt}
use Rattle.proposer.specs.Attempts.{Attempt, Answer, senders, Chooses, Counts, with_answer, waiting, proposing}
use Rattle.proposer.specs.Best.{IsBest, Exceeds, value_by, replacing}
use Rattle.proposer.specs.Standing.{StandsFor}
use Rattle.proposer.proofs.BestLemmas.{best_chooses, exceeds_or_not, best_kept, best_taken}

-- a promise is counted: its node and the better of two votes are kept
pub record KeepsPromise (old new : OpenAttempt) (q : ℕ) (prior : Option Vote) : Type 0 where
  pub ballot : new.ballot ≡ old.ballot
  pub own : new.own ≡ old.own
  pub promised : new.promised.items ≡ old.promised.items ++ q ∷ []
  pub higher : Exceeds prior old.best → new.best ≡ prior
  pub lower : ¬ Exceeds prior old.best → new.best ≡ old.best

-- it is so where the vote takes the place of the best one just where it exceeds it
pub keeps_better : (old new : OpenAttempt) (q : ℕ) (prior better : Option Vote) → new.ballot ≡ old.ballot → new.own ≡ old.own → new.promised.items ≡ old.promised.items ++ q ∷ []
    → (Exceeds prior old.best → better ≡ prior) → (¬ Exceeds prior old.best → better ≡ None) → new.best ≡ replacing better old.best → KeepsPromise old new q prior
keeps_better old new q prior better ballot own promised higher lower best = record {
  ballot = ballot;
  own = own;
  promised = promised;
  higher = λ above. best ∙ ap (λ (v : Option Vote). replacing v old.best) (higher above) ∙ there prior old.best above;
  lower = λ below. best ∙ ap (λ (v : Option Vote). replacing v old.best) (lower below);
}
  where
    there : (prior best : Option Vote) → Exceeds prior best → replacing prior best ≡ prior
    there None best above = absurd above
    there (Some vote) best above = refl

senders_with : (a : Attempt) (q : ℕ) (prior : Option Vote) → senders (with_answer a q prior) ≡ senders a.answers ++ q ∷ []
senders_with a q prior = map-append (λ (x : Answer). x.sender) a.answers (record { sender = q; prior = prior } ∷ [])

senders_length : (n : ℕ) (old : OpenAttempt) (a : Attempt) (q : ℕ) (prior : Option Vote) → StandsFor n old a → length (senders (with_answer a q prior)) ≡ length old.promised.items + 1
senders_length n old a q prior h = ap length (senders_with a q prior) ∙ length_push (senders a.answers) q ∙ ap (λ (xs : List ℕ). length xs + 1) (sym h.promised)

best_after : (old new : OpenAttempt) (a : Attempt) (q : ℕ) (prior : Option Vote) → KeepsPromise old new q prior → IsBest a.answers old.best → IsBest (with_answer a q prior) new.best
best_after old new a q prior c h =
    ⊎_elim
    (λ above. subst (IsBest (with_answer a q prior)) (sym (c.higher above)) (best_taken a.answers q prior old.best above h))
    (λ below. subst (IsBest (with_answer a q prior)) (sym (c.lower below)) (best_kept a.answers q prior old.best below h))
    (exceeds_or_not prior old.best)

stands_after : (n : ℕ) (old new : OpenAttempt) (a : Attempt) (q : ℕ) (prior : Option Vote) (proposal : Option (List ℕ)) → StandsFor n old a → IsNode n q → ¬ In (senders a.answers) q
    → KeepsPromise old new q prior → proposal ≡ (if new.proposed then Some (value_by new.own new.best) else None) → StandsFor n new (record a { answers = with_answer a q prior; proposal = proposal })
stands_after n old new a q prior proposal h is first c made = record {
  ballot = c.ballot ∙ h.ballot;
  own = c.own ∙ h.own;
  promised = c.promised ∙ ap (λ (xs : List ℕ). xs ++ q ∷ []) h.promised ∙ sym (senders_with a q prior);
  distinct = subst (λ (xs : List ℕ). Distinct xs) (sym (senders_with a q prior)) (distinct_push (senders a.answers) q h.distinct first);
  nodes = λ p k.
      ⊎_elim (h.nodes p) (λ (e : q ≡ p). subst (IsNode n) e is)
      (in_push (senders a.answers) q p (subst (λ (xs : List ℕ). In xs p) (senders_with a q prior) k));
  best = best_after old new a q prior c h.best;
  proposal = made;
}

-- the answer counts if the tests pass
pub counts : (n : ℕ) (old : OpenAttempt) (a : Attempt) (q : ℕ) (b : BallotOf) → StandsFor n old a → b ≡ old.ballot → old.proposed ≡ false → ¬ In old.promised.items q → Counts a q b
counts n old a q b h at open_yet first = (
  sym (at ∙ h.ballot),
  h.proposal ∙ ap (λ (t : Bool). if t then Some (value_by old.own old.best) else None) open_yet,
  λ k. first (subst (λ (xs : List ℕ). In xs q) (sym h.promised) k),
)

pub no_majority : (n : ℕ) (old : OpenAttempt) (a : Attempt) (q : ℕ) (prior : Option Vote) → StandsFor n old a → length old.promised.items + 1 < n / 2 + 1 → ¬ Majority n (senders (with_answer a q prior))
no_majority n old a q prior h few m = omega (arith, m.enough, senders_length n old a q prior h)

pub waits : (n : ℕ) (old new : OpenAttempt) (a : Attempt) (q : ℕ) (prior : Option Vote) → StandsFor n old a → IsNode n q → ¬ In (senders a.answers) q → KeepsPromise old new q prior
    → old.proposed ≡ false → new.proposed ≡ old.proposed → StandsFor n new (waiting a q prior)
waits n old new a q prior h is first c open_yet same =
    stands_after n old new a q prior a.proposal h is first c
    (h.proposal ∙ ap (λ (t : Bool). if t then Some (value_by old.own old.best) else None) open_yet ∙ sym (ap (λ (t : Bool). if t then Some (value_by new.own new.best) else None) (same ∙ open_yet)))

pub proposes : (n : ℕ) (old new : OpenAttempt) (a : Attempt) (q : ℕ) (prior : Option Vote) (v : List ℕ) → StandsFor n old a → IsNode n q → ¬ In (senders a.answers) q → KeepsPromise old new q prior
    → n / 2 + 1 ≤ length old.promised.items + 1 → v ≡ value_by new.own new.best → new.proposed ≡ true
    → Majority n (senders (with_answer a q prior)) × Chooses a.own (with_answer a q prior) v × StandsFor n new (proposing a q prior v)
proposes n old new a q prior v h is first c enough chosen made =
    let after = stands_after n old new a q prior (Some v) h is first c (ap Some chosen ∙ sym (ap (λ (t : Bool). if t then Some (value_by new.own new.best) else None) made)) in (
      record { distinct = after.distinct; nodes = after.nodes; enough = omega (arith, senders_length n old a q prior h) },
      subst (λ (w : List ℕ). Chooses a.own (with_answer a q prior) w) (ap (λ (o : List ℕ). value_by o new.best) (sym after.own) ∙ sym chosen) (best_chooses a.own (with_answer a q prior) new.best after.best),
      after,
    )

-- a search for a number finds it where it is
any_in : (q : ℕ) (xs : List ℕ) → list_any (λ y. eqb y q) xs ≡ true → In xs q
any_in q [] e = absurd (cc)
any_in q (x ∷ xs) e =
    let rest : list_any (λ y. eqb y q) xs ≡ true → In xs q = any_in q xs in
    elim (eqb x q) as (λ t. eqb x q ≡ t → (t || list_any (λ y. eqb y q) xs) ≡ true → In (x ∷ xs) q) [
      | true ↦ λ is e. inl (eqb-true x q is)
      | false ↦ λ is e. inr (rest e)
    ] refl e

in_any : (q : ℕ) (xs : List ℕ) → In xs q → list_any (λ y. eqb y q) xs ≡ true
in_any q [] h = absurd h
in_any q (x ∷ xs) h =
    let rest : In xs q → list_any (λ y. eqb y q) xs ≡ true = in_any q xs in
    elim (eqb x q) as (λ t. eqb x q ≡ t → (t || list_any (λ y. eqb y q) xs) ≡ true) [
      | true ↦ λ is. refl
      | false ↦ λ is. ⊎_elim (λ (e : x ≡ q). absurd (other x q is e)) rest h
    ] refl
  where
    other : (x q : ℕ) → eqb x q ≡ false → x ≡ q → ⊥
    other x q is e = grind (arith, nat_tests)

pub contains_in : (q : ℕ) (xs : List ℕ) (r : Bool) → r ≡ list_any (λ y. eqb y q) xs → IsTrue r ↔ In xs q
contains_in q xs true e = (λ t. any_in q xs (sym e), λ h. search rules)
contains_in q xs false e = (λ t. absurd (search (rules, t)), λ h. absurd (clash (e ∙ in_any q xs h)))
  where
    clash : false ≡ true → ⊥
    clash e = cc
