-- The window of unknown instances, and what a widening finds.
use Rattle.std.proofs.Common.{◌≡◌, ◌≢◌, ◌⊎◌, inl, inr, ⊎_elim, ℕ, ◌+◌, ◌-◌, ◌<◌, ◌≤◌, Option, Some, None, List, [], ◌∷◌, ◌++◌, length, refl, sym, subst, ◌∙◌, arith}
use Rattle.site_ids.specs.Ids.{IsInstance}
use Rattle.site_ids.specs.Lists.{In}
use Rattle.proposer.specs.Attempts.{Attempt}
use Rattle.proposer.specs.declared.TheConstants.{MAX_ATTEMPTS}
use Rattle.node.specs.Nodes.{Value, Node, IsFirstUnknown}
use Rattle.site_ids.specs.Spans.{IsSpan, IsInSpan}
use Rattle.node.specs.Calls.{RisesFrom, IsTried, AreUntried, MayWiden, IsNextSpan, Begins, AreOpenElsewhere}
use Rattle.node.specs.Effects.{Effect}
use Rattle.node.specs.Tidy.{IsInWindow, IsTidy}

no_value : (v : Value) → ◌≡◌ {A = Option Value} None (Some v) → ⊥
no_value v e = cc

-- the first unknown instance begins the window
pub first_in_window : (known : ℕ → Option Value) (i : ℕ) → IsFirstUnknown known i → IsInWindow known i
first_in_window known i first = record { instance = first.instance; unknown = first.unknown; before = λ j instance far. first.before j instance (omega (arith, far)) }

-- no instance of the window is below the first unknown one
pub from_first : (known : ℕ → Option Value) (first i : ℕ) → IsFirstUnknown known first → IsInstance i → known i ≡ None → first ≤ i
from_first known first i is instance unknown =
    ⊎_elim (λ low. let v = is.before i instance low in absurd (no_value v.0 (sym unknown ∙ v.1))) (λ high. high) (order i first)
  where
    order : (i first : ℕ) → (i < first) ⊎ (first ≤ i)
    order i first = grind arith

-- and none is 64 or more past it
pub within_window : (known : ℕ → Option Value) (first i : ℕ) → IsFirstUnknown known first → IsInWindow known i → i < first + MAX_ATTEMPTS
within_window known first i is at =
    ⊎_elim (λ near. near) (λ far. let v = at.before first is.instance far in absurd (no_value v.0 (sym is.unknown ∙ v.1))) (order i first)
  where
    order : (i first : ℕ) → (i < first + 64) ⊎ (first + 64 ≤ i)
    order i first = grind arith

-- ---- the attempts after the first unknown instance

rises_above : (low : ℕ) (xs : List (ℕ × Attempt)) → RisesFrom 0 xs → ((x : ℕ × Attempt) → In xs x → low < x.0) → RisesFrom low xs
rises_above low [] rising above = tt
rises_above low (x ∷ xs) rising above = (above x (inl refl), rising.1)

few_between : (low high : ℕ) (xs : List (ℕ × Attempt)) → RisesFrom low xs → ((x : ℕ × Attempt) → In xs x → x.0 ≤ high) → low ≤ high → length xs + low ≤ high
few_between low high [] rising most at = omega (arith, at)
few_between low high (x ∷ xs) rising most at =
    let here = most x (inl refl) in
    let rest = few_between x.0 high xs rising.1 (λ y k. most y (inr k)) here in
    omega (arith, rest, rising.0)

-- they are 63 at most
pub few_elsewhere : (s : Node) (i : ℕ) (xs : List (ℕ × Attempt)) → IsTidy s → IsFirstUnknown s.known i → AreOpenElsewhere s i xs → length xs ≤ 63
few_elsewhere s i xs tidy first are =
    let few = few_between i (i + 63) xs (rises_above i xs are.rising above) most (omega arith) in
    omega (arith, few)
  where
    above : (x : ℕ × Attempt) → In xs x → i < x.0
    above x k =
        let at = are.each x k in
        let window = tidy.attempted x.0 x.1 at.1 in
        let from = from_first s.known i x.0 first window.instance window.unknown in
        apart x.0 i from at.0
      where
        apart : (j i : ℕ) → i ≤ j → j ≢ i → i < j
        apart j i from other = omega (arith, from, other)

    most : (x : ℕ × Attempt) → In xs x → x.0 ≤ i + 63
    most x k = let near = within_window s.known i x.0 first (tidy.attempted x.0 x.1 (are.each x k).1) in omega (arith, near)

-- ---- what a widening takes

untried_from : (s : Node) (vs left : List Value) → AreUntried s vs left → (v : Value) → In left v → In vs v
untried_from s [] left are v k = subst (λ (l : List Value). In l v) are k
untried_from s (u ∷ vs) left are v k = ⊎_elim
    (λ (x : IsTried s u × AreUntried s vs left). inr (untried_from s vs left x.1 v k))
    (λ (x : (¬ IsTried s u) × ((rest : List Value) × (left ≡ u ∷ rest) × AreUntried s vs rest)).
    ⊎_elim (λ e. inl e) (λ later. inr (untried_from s vs x.1.0 x.1.2 v later)) (subst (λ (l : List Value). In l v) x.1.1 k))
    are

in_front : (xs ys : List Value) (v : Value) → In xs v → In (xs ++ ys) v
in_front [] ys v k = absurd k
in_front (x ∷ xs) ys v k = ⊎_elim (λ e. inl e) (λ later. inr (in_front xs ys v later)) k

-- its values are pending
pub next_in : (s : Node) (i : ℕ) (values : List Value) → IsNextSpan s i values → (v : Value) → In values v → In s.pending v
next_in s i values next v k = untried_from s s.pending (values ++ next.left) next.oldest v (in_front values next.left v k)

untried_left : (s : Node) (vs left : List Value) (v : Value) → AreUntried s vs left → In left v → ¬ IsTried s v
untried_left s [] left v are k = absurd (subst (λ (l : List Value). In l v) are k)
untried_left s (u ∷ vs) left v are k = ⊎_elim
    (λ (x : IsTried s u × AreUntried s vs left). untried_left s vs left v x.1 k)
    (λ (x : (¬ IsTried s u) × ((rest : List Value) × (left ≡ u ∷ rest) × AreUntried s vs rest)).
    ⊎_elim (λ (e : u ≡ v). subst (λ (w : Value). ¬ IsTried s w) e x.0) (λ later. untried_left s vs x.1.0 v x.1.2 later) (subst (λ (l : List Value). In l v) x.1.1 k))
    are

some_value : (values : List Value) → 1 ≤ length values → (v : Value) × In values v
some_value [] some = absurd (omega (arith, some))
some_value (v ∷ vs) some = (v, inl refl)

-- a widening that begins may
pub begins_may : (p : ℕ) (s : Node) (effect : Effect) → Begins p s effect → MayWiden s
begins_may p s effect begins =
    let next = begins.span in
    let one = some_value begins.values next.some in (
      (begins.instance, next.start),
      (one.0, (next_in s begins.instance begins.values next one.0 one.1, untried_left s s.pending (begins.values ++ next.left) one.0 next.oldest (in_front begins.values next.left one.0 one.1))),
    )

-- its instances are of the window
pub span_in_window : (s : Node) (i : ℕ) (values : List Value) → IsNextSpan s i values → (j : ℕ) → IsInSpan i (length values) j → IsInWindow s.known j
span_in_window s i values next j within =
    let free = next.free j within in
    record {
      instance = free.instance;
      unknown = free.unknown;
      before = λ k instance far. next.start.is_first.before k instance (omega (arith, far, within.1, next.near));
    }

-- and they are a span
pub next_is_span : (s : Node) (i : ℕ) (values : List Value) → IsNextSpan s i values → IsSpan i (length values)
next_is_span s i values next =
    let first = next.start in
    let from = from_first s.known first.first i first.is_first first.free.instance first.free.unknown in
    let last = next.free (i + length values - 1) (let some = next.some in omega (arith, some), let some = next.some in omega (arith, some)) in
    (next.some, (let near = next.near in omega (arith, near, from)), first.free.instance.0, (let some = next.some in let high = last.instance.1 in omega (arith, some, high)))

-- a value that isn't tried is among them
pub untried_stays : (s : Node) (vs left : List Value) (v : Value) → AreUntried s vs left → In vs v → ¬ IsTried s v → In left v
untried_stays s [] left v are k untried = absurd k
untried_stays s (u ∷ vs) left v are k untried = ⊎_elim
    (λ (x : IsTried s u × AreUntried s vs left). ⊎_elim (λ (e : u ≡ v). absurd (untried (subst (IsTried s) e x.0))) (λ m. untried_stays s vs left v x.1 m untried) k)
    (λ (x : (¬ IsTried s u) × ((rest : List Value) × (left ≡ u ∷ rest) × AreUntried s vs rest)).
    subst (λ (l : List Value). In l v) (sym x.1.1) (⊎_elim (λ e. inl e) (λ m. inr (untried_stays s vs x.1.0 v x.1.2 m untried)) k))
    are
