-- The bits of a number as nodes.
use Rattle.std.proofs.Common.{◌≡◌, ◌≢◌, ◌⊎◌, inl, inr, ℕ, zero, suc, ◌+◌, ◌-◌, ◌*◌, ◌/◌, ◌%◌, ◌^◌, ◌<◌, bit_and, bit_or, sym, ap, subst, ◌∙◌, ⊎_elim, arith, pow_pos}
use Rattle.std.specs.Prelude.{◌↔◌, count_ones}
use Rattle.std.specs.Int.{bit_at, w16}
use Rattle.std.proofs.lemmas.Bool.{cases_eq}
use Rattle.std.proofs.lemmas.Nat.{mod-pow-add, ones_cat, ones_le_self, zero_from_ones, mod_below, one_shl, and_mask}
use Rattle.std.proofs.lemmas.Nat.Bits.{bit_at-suc, bit_at-lt, bit_at_set_same, bit_at_set_other}
use Rattle.learner.specs.Masks.{Counted}
use Rattle.learner.proofs.Counting.{counted_none, counted_more, counted_same}

-- a bit that is set is that of one node more
pub bit_added : (x k q p : ℕ) → k < 16 → k ≡ q → (bit_at (bit_or x (1 * 2 ^ k % 65536)) p ≡ 1) ↔ ((bit_at x p ≡ 1) ⊎ (p ≡ q))
bit_added x k q p low is =
    ⊎_elim
    (λ (e : p ≡ k). (λ _. inr (e ∙ is), λ _. subst (λ (j : ℕ). bit_at (bit_or x (1 * 2 ^ k % 65536)) j ≡ 1) (sym e) (bit_at_set_same w16 x k low)))
    (λ (apart : p ≢ k).
    let same : bit_at (bit_or x (1 * 2 ^ k % 65536)) p ≡ bit_at x p = bit_at_set_other w16 x k low p apart in
    (λ h. inl (sym same ∙ h), λ h. ⊎_elim (λ b. same ∙ b) (λ e. absurd (apart (e ∙ sym is))) h))
    (cases_eq p k)

-- a further bit counts one if it is 1
one_more : (P : ℕ → Type 0) (k c d : ℕ) → d < 2 → (d ≡ 1) ↔ P (k + 1) → Counted P k c → Counted P (k + 1) (count_ones d + c)
one_more P k c d small is h =
    ⊎_elim
    (λ (none : d ≡ 0).
    let fails : ¬ P (k + 1) = λ pass. absurd (omega (arith, is.1 pass, none)) in
    let same : c ≡ count_ones d + c = omega (arith, ones_le_self d) in
    subst (λ (n : ℕ). Counted P (k + 1) n) same (counted_same P k c fails h))
    (λ (some : d ≢ 0).
    let one : d ≡ 1 = omega arith in
    let counts : count_ones d ≢ 0 = λ z. some (zero_from_ones d z) in
    let same : c + 1 ≡ count_ones d + c = omega (arith, ones_le_self d) in
    subst (λ (n : ℕ). Counted P (k + 1) n) same (counted_more P k c (is.0 one) h))
    (cases_eq d 0)

-- the ones of the bits 1 to k count the nodes among them
ones_counted : (x k : ℕ) → Counted (λ p. bit_at x p ≡ 1) k (count_ones (x / 2 % 2 ^ k))
ones_counted x zero =
    let none : count_ones (x / 2 % 1) ≡ 0 = omega (arith, ones_le_self (x / 2 % 1)) in
    subst (λ (c : ℕ). Counted (λ p. bit_at x p ≡ 1) 0 c) (sym none) (counted_none (λ p. bit_at x p ≡ 1))
ones_counted x (suc k) =
    let next : k + 1 ≡ suc k = omega arith in
    let turned : 1 + k ≡ k + 1 = omega arith in
    let low : x / 2 % 2 ^ k < 2 ^ k = mod_below (x / 2) (2 ^ k) (pow_pos k) in
    let parts : count_ones (x / 2 % 2 ^ (1 + k)) ≡ count_ones (bit_at (x / 2) k) + count_ones (x / 2 % 2 ^ k) = ap (count_ones) (mod-pow-add (x / 2) 1 k) ∙ ones_cat k (bit_at (x / 2) k) (x / 2 % 2 ^ k) low in
    let whole : count_ones (bit_at (x / 2) k) + count_ones (x / 2 % 2 ^ k) ≡ count_ones (x / 2 % 2 ^ (k + 1)) = sym parts ∙ ap (λ n. count_ones (x / 2 % 2 ^ n)) turned in
    let bit : bit_at x (k + 1) ≡ bit_at (x / 2) k = ap (bit_at x) next ∙ bit_at-suc x k in
    let more : Counted (λ p. bit_at x p ≡ 1) (k + 1) (count_ones (bit_at (x / 2) k) + count_ones (x / 2 % 2 ^ k)) = one_more (λ p. bit_at x p ≡ 1) k (count_ones (x / 2 % 2 ^ k)) (bit_at (x / 2) k) (bit_at-lt (x / 2) k) (λ h. bit ∙ h, λ h. sym bit ∙ h) (ones_counted x k) in
    subst (λ (n : ℕ). Counted (λ p. bit_at x p ≡ 1) n (count_ones (x / 2 % 2 ^ n))) next (subst (λ (c : ℕ). Counted (λ p. bit_at x p ≡ 1) (k + 1) c) whole more)

-- as the code takes them
pub mask_counted : (x k n : ℕ) → k < 16 → k ≡ n → Counted (λ p. bit_at x p ≡ 1) n (count_ones (bit_and (x / 2) (1 * 2 ^ k % 65536 - 1)))
mask_counted x k n low is =
    let masked : bit_and (x / 2) (1 * 2 ^ k % 65536 - 1) ≡ x / 2 % 2 ^ k = ap (λ m. bit_and (x / 2) (m - 1)) (one_shl k 16 low) ∙ and_mask (x / 2) k in
    subst (λ (m : ℕ). Counted (λ p. bit_at x p ≡ 1) m (count_ones (bit_and (x / 2) (1 * 2 ^ k % 65536 - 1)))) is (subst (λ (y : ℕ). Counted (λ p. bit_at x p ≡ 1) k (count_ones y)) (sym masked) (ones_counted x k))
