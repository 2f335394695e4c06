-- One more vote.
use Rattle.std.proofs.Common.{◌≡◌, ◌≢◌, ◌⊎◌, inl, inr, ℕ, ◌+◌, ◌/◌, List, Result, Ok, Err, OnOk, OnErr, sym, ap, subst, ◌∙◌, ⊎_elim}
use Rattle.std.specs.Prelude.{◌↔◌, IsTrue, nat_le}
use Rattle.std.proofs.lemmas.Bool.{cases_eq}
use Rattle.site_ids.specs.Ids.{BallotOf}
use Rattle.learner.specs.declared.node_mask.NodeMask.{NodeMask}
use Rattle.learner.specs.declared.tally.Tally.{Tally}
use Rattle.learner.specs.declared.learner.Learner.{Learner}
use Rattle.learner.specs.Masks.{HasNode, Counted}
use Rattle.learner.specs.Tallies.{HasTold, AddsTold}
use Rattle.learner.specs.ToldVotes.{ToldVote, told_vote, HasMajority}
use Rattle.learner.specs.Votes.{tallies_at, IsTold, IsToldWith}
use Rattle.learner.proofs.Counting.{quorum_reached, counted_by}

-- tallies that say one vote more, at its instance, make a set with that vote
vote_added : (old new : Learner) (p i : ℕ) (b : BallotOf) (v : List ℕ) → AddsTold (tallies_at old i) (tallies_at new i) p b v
    → ((j : ℕ) → j ≢ i → tallies_at new j ≡ tallies_at old j) → (t : ToldVote) → IsTold new t ↔ IsToldWith old (told_vote p i b v) t
vote_added old new p i b v adds others t = ⊎_elim here elsewhere (cases_eq t.instance i)
  where
    here : t.instance ≡ i → IsTold new t ↔ IsToldWith old (told_vote p i b v) t
    here e =
        let say : AddsTold (tallies_at old t.instance) (tallies_at new t.instance) p b v = subst (λ (j : ℕ). AddsTold (tallies_at old j) (tallies_at new j) p b v) (sym e) adds in
        let told = say t.voter t.ballot t.value in (
          λ h. ⊎_elim (λ k. inl k) (λ k. inr (λ j. record { voter = k.0 j; instance = e j; ballot = k.1 j; value = k.2 j })) (told.0 h),
          λ h. told.1 (⊎_elim (λ k. inl k) (λ (k : t ≡ told_vote p i b v). inr (ap (λ (x : ToldVote). x.voter) k, ap (λ (x : ToldVote). x.ballot) k, ap (λ (x : ToldVote). x.value) k)) h),
        )

    elsewhere : t.instance ≢ i → IsTold new t ↔ IsToldWith old (told_vote p i b v) t
    elsewhere apart =
        let same = others t.instance apart in (
          λ h. inl (subst (λ (xs : List Tally). HasTold xs t.voter t.ballot t.value) same h),
          λ h.
              ⊎_elim (λ k. subst (λ (xs : List Tally). HasTold xs t.voter t.ballot t.value) (sym same) k)
              (λ (k : t ≡ told_vote p i b v). absurd (apart (ap (λ (x : ToldVote). x.instance) k))) h,
        )

-- the same tallies make the same set
votes_kept : (old new : Learner) (i : ℕ) → tallies_at new i ≡ tallies_at old i → ((j : ℕ) → j ≢ i → tallies_at new j ≡ tallies_at old j) → (t : ToldVote) → IsTold new t ↔ IsTold old t
votes_kept old new i here others t =
    let same : tallies_at new t.instance ≡ tallies_at old t.instance = ⊎_elim (λ (e : t.instance ≡ i). ap (tallies_at new) e ∙ (here ∙ ap (tallies_at old) (sym e))) (others t.instance) (cases_eq t.instance i) in (
      λ h. subst (λ (xs : List Tally). HasTold xs t.voter t.ballot t.value) same h,
      λ h. subst (λ (xs : List Tally). HasTold xs t.voter t.ballot t.value) (sym same) h,
    )

-- the same for what may be refused, at the instance's number
pub added : {E : Type 0} (old new : Learner) (p at i : ℕ) (b : BallotOf) (v : List ℕ) (r : Result (Unit {0}) E) → at ≡ i
    → OnOk r (AddsTold (tallies_at old at) (tallies_at new at) p b v) → ((j : ℕ) → j ≢ at → tallies_at new j ≡ tallies_at old j)
    → OnOk r ((t : ToldVote) → IsTold new t ↔ IsToldWith old (told_vote p i b v) t)
added old new p at i b v (Err e) is adds others = tt
added old new p at i b v (Ok u) is adds others = vote_added old new p i b v (subst (λ (k : ℕ). AddsTold (tallies_at old k) (tallies_at new k) p b v) is adds) (λ j apart. others j (λ e. apart (e ∙ is)))

pub refused : {E : Type 0} (old new : Learner) (at : ℕ) (r : Result (Unit {0}) E) → OnErr r (tallies_at new at ≡ tallies_at old at) → ((j : ℕ) → j ≢ at → tallies_at new j ≡ tallies_at old j)
    → OnErr r ((t : ToldVote) → IsTold new t ↔ IsTold old t)
refused old new at (Err e) keeps others = votes_kept old new at keeps others
refused old new at (Ok u) keeps others = tt

-- the nodes that reported a value, and the one whose vote comes, reach the quorum if there is a majority in
-- the set with that vote
pub completes_by : (learner : Learner) (tallies : List Tally) (nodes more : NodeMask) (q i : ℕ) (b : BallotOf) (v : List ℕ) (quorum c : ℕ) → tallies ≡ tallies_at learner i
    → ((p : ℕ) → HasNode nodes p ↔ HasTold tallies p b v) → ((p : ℕ) → HasNode more p ↔ (HasNode nodes p ⊎ (p ≡ q))) → Counted (HasNode more) learner.cluster c → quorum ≡ learner.cluster / 2 + 1
    → IsTrue (nat_le quorum c) ↔ HasMajority learner.cluster (IsToldWith learner (told_vote q i b v)) i b v
completes_by learner tallies nodes more q i b v quorum c at told from counted is =
    quorum_reached learner.cluster quorum c (IsToldWith learner (told_vote q i b v)) i b v is
    (counted_by (HasNode more) (λ p. IsToldWith learner (told_vote q i b v) (told_vote p i b v)) learner.cluster c (λ p. (into p, back p)) counted)
  where
    into : (p : ℕ) → HasNode more p → IsToldWith learner (told_vote q i b v) (told_vote p i b v)
    into p h = ⊎_elim (λ k. inl (subst (λ (xs : List Tally). HasTold xs p b v) at ((told p).0 k))) (λ e. inr (ap (λ (r : ℕ). told_vote r i b v) e)) ((from p).0 h)

    back : (p : ℕ) → IsToldWith learner (told_vote q i b v) (told_vote p i b v) → HasNode more p
    back p h = (from p).1 (⊎_elim (λ k. inl ((told p).1 (subst (λ (xs : List Tally). HasTold xs p b v) (sym at) k))) (λ e. inr (ap (λ (t : ToldVote). t.voter) e)) h)
