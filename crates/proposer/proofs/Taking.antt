-- A promise taken by the attempt of its instance.
use Rattle.std.proofs.Common.{◌≡◌, ◌≢◌, ◌⊎◌, inl, inr, ℕ, Option, Some, None, List, refl, sym, ap, subst, ◌∙◌, ⊎_elim}
use Rattle.std.proofs.lemmas.Bool.{cases_eq}
use Rattle.std.specs.Prelude.{◌↔◌, IsSome}
use Rattle.std.specs.BTreeMap.{BTreeMap}
use Rattle.site_ids.specs.Ids.{BallotOf}
use Rattle.site_ids.specs.Majorities.{Majority}
use Rattle.site_ids.specs.Lists.{put_at}
use Rattle.site_ids.specs.declared.value.Vote.{Vote}
use Rattle.site_ids.proofs.MapLemmas.{put_here, put_other}
use Rattle.proposer.specs.declared.open_attempt.OpenAttempt.{OpenAttempt}
use Rattle.proposer.specs.Attempts.{Attempt, senders, Chooses, Counts, with_answer, waiting, proposing, TakesPromise}
use Rattle.proposer.specs.Standing.{StandsFor, StandsForAny, attempt_at}
use Rattle.proposer.specs.Laws.{ProposesOnce}

-- a map of attempts stands for a function of them
abbrev pub AreThese : ℕ → BTreeMap ℕ (Option OpenAttempt) → (ℕ → Option Attempt) → Type 0
AreThese n kept attempts = (i : ℕ) → StandsForAny n (attempt_at kept i) (attempts i)

no_attempt : (a : Attempt) → ◌≡◌ {A = Option Attempt} None (Some a) → ⊥
no_attempt a e = cc

same_attempt : (a b : Attempt) → Some a ≡ Some b → a ≡ b
same_attempt a b e = cc

same_open : (a b : OpenAttempt) → Some a ≡ Some b → a ≡ b
same_open a b e = cc

-- an attempt that is kept is open
pub open_at : (n : ℕ) (found : Option OpenAttempt) (attempt : Option Attempt) (kept : OpenAttempt) → StandsForAny n found attempt → found ≡ Some kept → (a : Attempt) × (attempt ≡ Some a) × StandsFor n kept a
open_at n None attempt kept h e = absurd (cc)
open_at n (Some k) None kept h e = absurd h
open_at n (Some k) (Some a) kept h e = (a, (λ _. Some a), subst (λ (x : OpenAttempt). StandsFor n x a) (same_open k kept e) h)

-- and one that isn't is not
none_at : (n : ℕ) (found : Option OpenAttempt) (attempt : Option Attempt) → StandsForAny n found attempt → found ≡ None → attempt ≡ None
none_at n None None h e = λ _. None
none_at n None (Some a) h e = absurd h
none_at n (Some k) attempt h e = absurd (cc)

-- the one is there if the other is
pub both_there : (n : ℕ) (kept : Option OpenAttempt) (attempt : Option Attempt) → StandsForAny n kept attempt → IsSome kept ↔ IsSome attempt
both_there n None None h = (λ some. some, λ some. some)
both_there n None (Some a) h = absurd h
both_there n (Some k) None h = absurd h
both_there n (Some k) (Some a) h = (λ some. refl, λ some. refl)

pub put_stands : (n : ℕ) (old new : BTreeMap ℕ (Option OpenAttempt)) (attempts : ℕ → Option Attempt) (i : ℕ) (kept : OpenAttempt) (t : Attempt) → AreThese n old attempts → StandsFor n kept t
    → attempt_at new i ≡ Some kept → ((j : ℕ) → j ≢ i → attempt_at new j ≡ attempt_at old j) → AreThese n new (put_at attempts i (Some t))
put_stands n old new attempts i kept t h s at others j =
    ⊎_elim
    (λ (e : j ≡ i).
    subst (λ (x : Option OpenAttempt). StandsForAny n x (put_at attempts i (Some t) j)) (sym (ap (attempt_at new) e ∙ at))
    (subst (λ (x : Option Attempt). StandsForAny n (Some kept) x) (sym (put_here attempts i (Some t) j e)) s))
    (λ apart.
    subst (λ (x : Option OpenAttempt). StandsForAny n x (put_at attempts i (Some t) j)) (sym (others j apart))
    (subst (λ (x : Option Attempt). StandsForAny n (attempt_at old j) x) (sym (put_other attempts i (Some t) j apart)) (h j)))
    (cases_eq j i)

-- what is kept of an attempt that nothing counts for may stay as it is, or be stored again
pub same_stands : (n : ℕ) (old new : BTreeMap ℕ (Option OpenAttempt)) (attempts : ℕ → Option Attempt) (i : ℕ) (kept : OpenAttempt) (a : Attempt) → AreThese n old attempts → attempts i ≡ Some a → StandsFor n kept a
    → attempt_at new i ≡ Some kept → ((j : ℕ) → j ≢ i → attempt_at new j ≡ attempt_at old j) → AreThese n new attempts
same_stands n old new attempts i kept a h is s at others j =
    ⊎_elim
    (λ (e : j ≡ i).
    subst (λ (x : Option OpenAttempt). StandsForAny n x (attempts j)) (sym (ap (attempt_at new) e ∙ at))
    (subst (λ (x : Option Attempt). StandsForAny n (Some kept) x) (sym (ap attempts e ∙ is)) s))
    (λ apart. subst (λ (x : Option OpenAttempt). StandsForAny n x (attempts j)) (sym (others j apart)) (h j))
    (cases_eq j i)

-- no attempt is open at the instance
pub none_taken : (n : ℕ) (old new : BTreeMap ℕ (Option OpenAttempt)) (attempts : ℕ → Option Attempt) (q i : ℕ) (b : BallotOf) (prior : Option Vote) → attempt_at old i ≡ None
    → ((j : ℕ) → attempt_at new j ≡ attempt_at old j) → AreThese n old attempts → (after : ℕ → Option Attempt) × TakesPromise n attempts q i b prior after None × AreThese n new after
none_taken n old new attempts q i b prior absent same h = (
  attempts,
  inl (λ a e. absurd (no_attempt a (sym (none_at n (attempt_at old i) (attempts i) (h i) absent) ∙ e)), λ _. attempts),
  λ j. subst (λ (x : Option OpenAttempt). StandsForAny n x (attempts j)) (sym (same j)) (h j),
)

-- the attempt goes on
pub waiting_taken : (n : ℕ) (old new : BTreeMap ℕ (Option OpenAttempt)) (attempts : ℕ → Option Attempt) (q i : ℕ) (b : BallotOf) (prior : Option Vote) (was kept : OpenAttempt) → attempt_at old i ≡ Some was
    → ((a : Attempt) → StandsFor n was a
    → (¬ Counts a q b × StandsFor n kept a) ⊎ (Counts a q b × ¬ Majority n (senders (with_answer a q prior)) × StandsFor n kept (waiting a q prior)))
    → attempt_at new i ≡ Some kept → ((j : ℕ) → j ≢ i → attempt_at new j ≡ attempt_at old j) → AreThese n old attempts
    → (after : ℕ → Option Attempt) × TakesPromise n attempts q i b prior after None × AreThese n new after
waiting_taken n old new attempts q i b prior was kept there step at others h =
    let found = open_at n (attempt_at old i) (attempts i) was (h i) there in
    ⊎_elim
    (λ (k : ¬ Counts found.0 q b × StandsFor n kept found.0). (
      attempts,
      inl (λ a e. subst (λ (x : Attempt). ¬ Counts x q b) (same_attempt found.0 a (sym found.1 ∙ e)) k.0, λ _. attempts),
      same_stands n old new attempts i kept found.0 h found.1 k.1 at others,
    ))
    (λ (k : Counts found.0 q b × ¬ Majority n (senders (with_answer found.0 q prior)) × StandsFor n kept (waiting found.0 q prior)). (
      put_at attempts i (Some (waiting found.0 q prior)),
      inr (found.0, found.1, k.0, k.1, λ _. put_at attempts i (Some (waiting found.0 q prior))),
      put_stands n old new attempts i kept (waiting found.0 q prior) h k.2 at others,
    ))
    (step found.0 found.2)

-- the attempt proposes
pub proposal_taken : (n : ℕ) (old new : BTreeMap ℕ (Option OpenAttempt)) (attempts : ℕ → Option Attempt) (q i : ℕ) (b : BallotOf) (prior : Option Vote) (v : List ℕ) (was kept : OpenAttempt) → attempt_at old i ≡ Some was
    → ((a : Attempt) → StandsFor n was a
    → Counts a q b × Majority n (senders (with_answer a q prior)) × Chooses a.own (with_answer a q prior) v × StandsFor n kept (proposing a q prior v))
    → attempt_at new i ≡ Some kept → ((j : ℕ) → j ≢ i → attempt_at new j ≡ attempt_at old j) → AreThese n old attempts
    → (after : ℕ → Option Attempt) × TakesPromise n attempts q i b prior after (Some v) × AreThese n new after
proposal_taken n old new attempts q i b prior v was kept there step at others h =
    let found = open_at n (attempt_at old i) (attempts i) was (h i) there in
    let k = step found.0 found.2 in (
      put_at attempts i (Some (proposing found.0 q prior v)),
      (found.0, found.1, k.0, k.1, k.2, λ _. put_at attempts i (Some (proposing found.0 q prior v))),
      put_stands n old new attempts i kept (proposing found.0 q prior v) h k.3 at others,
    )

-- after a proposal no promise counts for the attempt
pub proposes_once : ProposesOnce
proposes_once n q r i b c prior other attempts after later v u first second =
    let now : after i ≡ Some (proposing first.0 q prior v) = ap (λ (f : ℕ → Option Attempt). f i) first.5 ∙ put_here attempts i (Some (proposing first.0 q prior v)) i (λ _. i) in
    clash v (ap (λ (a : Attempt). a.proposal) (same_attempt (proposing first.0 q prior v) second.0 (sym now ∙ second.1)) ∙ second.2.1)
  where
    clash : (v : List ℕ) → ◌≡◌ {A = Option (List ℕ)} (Some v) None → ⊥
    clash v e = cc
