-- What a record has at one instance more.
use Rattle.std.proofs.Common.{◌≡◌, ◌≢◌, ◌⊎◌, ◌↔◌, inl, inr, ℕ, zero, suc, ◌+◌, ◌-◌, ◌^◌, ◌<◌, ◌≤◌, min, Bool, true, false, IsTrue, ◌||◌, if◌then◌else◌, Option, Some, None, is_some, refl, sym, ap, ◌∙◌, arith}
use Rattle.node.specs.Nodes.{Node}
use Rattle.server.specs.Recording.{count_to, furthest_to, has_vote, has_any, recorded_to, recorded_at}
use Rattle.server.specs.declared.recorded.Recorded.{Recorded}

-- one more by a test that is known
one_more_than : (b : Bool) (c k : ℕ) → c ≤ k → (if b then suc c else c) ≤ suc k
one_more_than true c k below = omega (arith, below)
one_more_than false c k below = omega (arith, below)

-- no more of them pass than there are
pub few : (passes : ℕ → Bool) (k : ℕ) → count_to passes k ≤ k
few passes zero = omega arith
few passes (suc k) = one_more_than (passes (suc k)) (count_to passes k) k (few passes k)

counts : (b : Bool) (c k : ℕ) → c ≤ k → k < 2 ^ 32 - 1
    → (if b then min (c + 1) (2 ^ 32 - 1) else c) ≡ (if b then suc c else c)
counts true c k below fits = omega (arith, below, fits)
counts false c k below fits = refl

pub one_further : (s : Node) (k : ℕ) → k < 2 ^ 32 - 1
    → recorded_at s (suc k) (recorded_to s k) ≡ recorded_to s (suc k)
one_further s k fits = ap (λ v. record {
  votes = v;
  last = furthest_to (has_vote s) (suc k);
  furthest = furthest_to (has_any s) (suc k);
}) (counts (has_vote s (suc k)) (count_to (has_vote s) k) k (few (has_vote s) k) fits)

-- the test of what there is
pub any_is : {A B : Type 0} (b : Bool) (value : Option A) (vote : Option B)
    → (IsTrue b ↔ ((value ≢ None) ⊎ (vote ≢ None))) → b ≡ is_some value || is_some vote
any_is true (Some x) vote e = refl
any_is true None (Some y) e = refl
any_is true None None e = elim (e.0 refl) [ inl h ↦ absurd (h refl) | inr h ↦ absurd (h refl) ]
any_is false (Some x) vote e = e.1 (inl (λ h. cc))
any_is false None (Some y) e = e.1 (inr (λ h. cc))
any_is false None None e = refl

abbrev made : ℕ → ℕ → ℕ → Recorded
made votes last furthest = record { votes = votes; last = last; furthest = furthest }

-- what was found at an instance is put so
pub looked : (s : Node) (i : ℕ) (r : Recorded) (voted any : Bool) (votes last furthest : ℕ)
    → voted ≡ has_vote s i → any ≡ has_any s i → votes ≡ (if voted then min (r.votes + 1) (2 ^ 32 - 1) else r.votes)
    → last ≡ (if voted then i else r.last) → furthest ≡ (if any then i else r.furthest)
    → made votes last furthest ≡ recorded_at s i r
looked s i r voted any votes last furthest v a so there far =
    ap (λ x. made x last furthest) (so ∙ ap (λ b. if b then min (r.votes + 1) (2 ^ 32 - 1) else r.votes) v)
    ∙ ap (λ x. made (if has_vote s i then min (r.votes + 1) (2 ^ 32 - 1) else r.votes) x furthest)
    (there ∙ ap (λ b. if b then i else r.last) v)
    ∙ ap (λ x. made (if has_vote s i then min (r.votes + 1) (2 ^ 32 - 1) else r.votes) (if has_vote s i then i else r.last) x)
    (far ∙ ap (λ b. if b then i else r.furthest) a)

-- the next instance
pub one_on : (s : Node) (k i : ℕ) (r now : Recorded) → i ≡ k + 1 → k < 2 ^ 32 - 1
    → now ≡ recorded_at s i r → r ≡ recorded_to s k → now ≡ recorded_to s (k + 1)
one_on s k i r now at fits is so =
    let next : k + 1 ≡ suc k = omega arith in
    is ∙ ap (λ x. recorded_at s i x) so ∙ ap (λ j. recorded_at s j (recorded_to s k)) (at ∙ next)
    ∙ one_further s k fits ∙ ap (λ j. recorded_to s j) (sym next)
