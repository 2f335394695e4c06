-- The nodes that pass a test, counted one after another.
use Rattle.std.proofs.Common.{◌≡◌, ◌⊎◌, inl, inr, ℕ, ◌+◌, ◌/◌, ◌≤◌, List, [], ◌∷◌, refl, sym, subst, ⊎_elim, arith}
use Rattle.std.specs.Prelude.{◌↔◌, IsTrue, nat_le}
use Rattle.std.proofs.lemmas.Bool.Decides.{nat_tests}
use Rattle.site_ids.specs.Ids.{IsNode, BallotOf}
use Rattle.site_ids.proofs.MemberLemmas.{distinct_within}
use Rattle.learner.specs.Masks.{Counted}
use Rattle.learner.specs.ToldVotes.{ToldVote, told_vote, HasMajority}

pub counted_none : (P : ℕ → Type 0) → Counted P 0 0
counted_none P = record { nodes = []; distinct = tt; each = λ p h. absurd h; all = λ p is pass. absurd (omega (arith, is.0, is.1)); number = refl }

last_or_before : (k p : ℕ) → IsNode (k + 1) p → (k + 1 ≡ p) ⊎ IsNode k p
last_or_before k p is = grind arith

pub counted_more : (P : ℕ → Type 0) (k c : ℕ) → P (k + 1) → Counted P k c → Counted P (k + 1) (c + 1)
counted_more P k c pass h = record {
  nodes = (k + 1) ∷ h.nodes;
  distinct = (λ i. (let is : IsNode k (k + 1) = (h.each (k + 1) i).0 in omega (arith, is.1)), h.distinct);
  each = λ p i. ⊎_elim (λ (e : k + 1 ≡ p). ((omega arith, omega arith), subst P e pass)) (λ j. let r = h.each p j in ((r.0.0, omega (arith, r.0.1)), r.1)) i;
  all = λ p is q. ⊎_elim (λ e. inl e) (λ b. inr (h.all p b q)) (last_or_before k p is);
  number = omega (arith, h.number);
}

pub counted_same : (P : ℕ → Type 0) (k c : ℕ) → ¬ P (k + 1) → Counted P k c → Counted P (k + 1) c
counted_same P k c fails h = record {
  nodes = h.nodes;
  distinct = h.distinct;
  each = λ p i. let r = h.each p i in ((r.0.0, omega (arith, r.0.1)), r.1);
  all = λ p is q. ⊎_elim (λ e. absurd (fails (subst P (sym e) q))) (λ b. h.all p b q) (last_or_before k p is);
  number = h.number;
}

-- enough voters are a majority
pub enough_counted : (n c : ℕ) (IsVote : ToldVote → Type 0) (i : ℕ) (b : BallotOf) (v : List ℕ) → Counted (λ p. IsVote (told_vote p i b v)) n c → n / 2 + 1 ≤ c → HasMajority n IsVote i b v
enough_counted n c IsVote i b v h enough =
    (h.nodes, record { distinct = h.distinct; nodes = λ p k. (h.each p k).0; enough = omega (arith, h.number) }, λ p k. (h.each p k).1)

-- and a majority of them is enough
pub majority_counted : (n c : ℕ) (IsVote : ToldVote → Type 0) (i : ℕ) (b : BallotOf) (v : List ℕ) → Counted (λ p. IsVote (told_vote p i b v)) n c → HasMajority n IsVote i b v → n / 2 + 1 ≤ c
majority_counted n c IsVote i b v h m =
    let all_counted = distinct_within m.0 h.nodes m.1.distinct (λ p k. h.all p (m.1.nodes p k) (m.2 p k)) in
    omega (arith, m.1.enough, all_counted, h.number)

-- a count reaches the quorum if and only if there is a majority
pub quorum_reached : (n quorum c : ℕ) (IsVote : ToldVote → Type 0) (i : ℕ) (b : BallotOf) (v : List ℕ) → quorum ≡ n / 2 + 1
    → Counted (λ p. IsVote (told_vote p i b v)) n c → IsTrue (nat_le quorum c) ↔ HasMajority n IsVote i b v
quorum_reached n quorum c IsVote i b v is h =
    (λ t. enough_counted n c IsVote i b v h (subst (λ (q : ℕ). q ≤ c) is (reached quorum c t)), λ m. reaches quorum c (subst (λ (q : ℕ). q ≤ c) (sym is) (majority_counted n c IsVote i b v h m)))
  where
    reached : (q c : ℕ) → IsTrue (nat_le q c) → q ≤ c
    reached q c t = grind (arith, nat_tests)

    reaches : (q c : ℕ) → q ≤ c → IsTrue (nat_le q c)
    reaches q c le = grind (arith, nat_tests)

-- what passes alike is counted alike
pub counted_by : (P Q : ℕ → Type 0) (n c : ℕ) → ((p : ℕ) → P p ↔ Q p) → Counted P n c → Counted Q n c
counted_by P Q n c same h = record {
  nodes = h.nodes;
  distinct = h.distinct;
  each = λ p i. let r = h.each p i in (r.0, (same p).0 r.1);
  all = λ p is q. h.all p is ((same p).1 q);
  number = h.number;
}

-- of two sets with the same votes both have a majority or none
pub same_majority : (n : ℕ) (IsVote IsOther : ToldVote → Type 0) (i : ℕ) (b : BallotOf) (v : List ℕ) → ((t : ToldVote) → IsVote t → IsOther t) → HasMajority n IsVote i b v → HasMajority n IsOther i b v
same_majority n IsVote IsOther i b v same m = (m.0, m.1, λ p k. same (told_vote p i b v) (m.2 p k))
