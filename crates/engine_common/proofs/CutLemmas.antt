-- Bytes are parted at their first b in one way.
use Rattle.std.proofs.Common.{◌≡◌, ◌≢◌, ℕ, zero, suc, List, [], ◌∷◌, ◌++◌, refl, sym, ◌∙◌, arith, ◌<◌, ◌^◌, decimal}
use Rattle.std.proofs.lemmas.Fmt.{decimal_is_IsNumeral}
use Rattle.std.proofs.lemmas.Str.Parse.{digit_at}
use Rattle.engine_common.specs.Cuts.{Lacks, IsCut}

pub lacks-append : (b : ℕ) (xs ys : List ℕ) → Lacks b xs → Lacks b ys → Lacks b (xs ++ ys)
lacks-append b [] ys hx hy i l = hy i l
lacks-append b (x ∷ xs) ys hx hy zero l = hx 0 (omega arith)
lacks-append b (x ∷ xs) ys hx hy (suc i) l = lacks-append b xs ys (λ k m. hx (suc k) (omega arith)) hy i (omega arith)

pub lacks-cons : (b x : ℕ) (ys : List ℕ) → x ≢ b → Lacks b ys → Lacks b (x ∷ ys)
lacks-cons b x ys h hy zero l = h
lacks-cons b x ys h hy (suc i) l = hy i (omega arith)

pub no_cut : (b : ℕ) (bytes xs ys : List ℕ) → Lacks b bytes → IsCut b bytes xs ys → ⊥
no_cut b bytes xs ys none cut = in_front xs ys (rw (← cut.whole) none)
  where
    in_front : (xs ys : List ℕ) → Lacks b (xs ++ b ∷ ys) → ⊥
    in_front [] ys none = none 0 (omega arith) refl
    in_front (x ∷ xs) ys none = in_front xs ys (λ k l. none (suc k) (omega arith))

pub record Same (xs ys us vs : List ℕ) : Type 0 where
  pub front : xs ≡ us
  pub back : ys ≡ vs

same_parts : (b : ℕ) (xs ys us vs : List ℕ) → xs ++ b ∷ ys ≡ us ++ b ∷ vs → Lacks b xs → Lacks b us → Same xs ys us vs
same_parts b [] ys [] vs e hx hu = record { front = refl; back = cc }
same_parts b [] ys (u ∷ us) vs e hx hu = absurd (hu 0 (omega arith) (cc))
same_parts b (x ∷ xs) ys [] vs e hx hu = absurd (hx 0 (omega arith) (cc))
same_parts b (x ∷ xs) ys (u ∷ us) vs e hx hu =
    let tails : xs ++ b ∷ ys ≡ us ++ b ∷ vs = cc in
    let heads : x ≡ u = cc in
    let later = same_parts b xs ys us vs tails (λ k l. hx (suc k) (omega arith)) (λ k l. hu (suc k) (omega arith)) in
    let fronts : xs ≡ us = later.front in record { front = cc; back = later.back }

pub one_cut : (b : ℕ) (bytes xs ys us vs : List ℕ) → IsCut b bytes xs ys → IsCut b bytes us vs → Same xs ys us vs
one_cut b bytes xs ys us vs p q = same_parts b xs ys us vs (sym p.whole ∙ q.whole) p.first q.first

-- no digit is below 48
pub lacks-decimal : (b n : ℕ) → b < 48 → n < 2 ^ 64 → Lacks b (decimal n)
lacks-decimal b n low small i l = let digit = digit_at (decimal n) i (decimal_is_IsNumeral n small).0.1 l in λ e. omega arith
