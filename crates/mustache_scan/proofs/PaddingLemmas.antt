-- Where padding stops a text may be cut.
use Rattle.std.proofs.Common.{◌≡◌, ℕ, zero, suc, ◌+◌, ◌-◌, ◌<◌, ◌≤◌, true, not, List, length, get_or, reverse, refl, ap, subst, ◌∙◌, arith, ⊎_elim}
use Rattle.std.proofs.lemmas.Bool.{cases_lt}
use Rattle.std.proofs.lemmas.Bool.Decides.{nat_tests}
use Rattle.std.proofs.lemmas.List.{get_or-reverse}
use Rattle.std.proofs.lemmas.List.Sums.{prefix_len_passes, prefix_len-le-length, suffix_len-le-length, passes_at_first}
use Rattle.std.proofs.lemmas.Str.{IsCharBoundary-start, IsCharBoundary-end, IsCharBoundary-after_ascii, IsCharBoundary-before_ascii}
use Rattle.std.specs.List.{prefix_len, suffix_len, position_or_len}
use Rattle.std.specs.Str.{IsUtf8, IsCharBoundary}
use Rattle.mustache_scan.specs.Cutting.{is_padding}

pub padding_ascii : (b : ℕ) → is_padding b ≡ true → b < 128
padding_ascii b h = grind (arith, nat_tests)

after_padding : (t : List ℕ) (n : ℕ) → IsUtf8 t → n ≤ length t → ((k : ℕ) → k < n → is_padding (get_or t k 0) ≡ true) → IsCharBoundary t n
after_padding t zero u le h = IsCharBoundary-start t u
after_padding t (suc n) u le h =
    let e : n + 1 ≡ suc n = omega arith in
    subst (λ m. IsCharBoundary t m) e (IsCharBoundary-after_ascii t n u (omega arith) (padding_ascii _ (h n (omega arith))))

pub front_boundary : (t : List ℕ) → IsUtf8 t → IsCharBoundary t (prefix_len is_padding t)
front_boundary t u = after_padding t (prefix_len is_padding t) u (prefix_len-le-length is_padding t) (λ k l. prefix_len_passes is_padding t k 0 l)

at_end : (t : List ℕ) (s : ℕ) → suffix_len is_padding t ≡ s → IsCharBoundary t (length t - s)
at_end t zero is = let e : length t ≡ length t - 0 = omega arith in subst (λ m. IsCharBoundary t m) e (IsCharBoundary-end t)
at_end t (suc k) is =
    let le : suffix_len is_padding t ≤ length t = suffix_len-le-length is_padding t in
    let here : is_padding (get_or (reverse t) k 0) ≡ true = prefix_len_passes is_padding (reverse t) k 0 (omega arith) in
    let place : length t - 1 - k ≡ length t - suc k = omega arith in
    let same : get_or (reverse t) k 0 ≡ get_or t (length t - suc k) 0 = get_or-reverse t k 0 (omega arith) ∙ ap (λ m. get_or t m 0) place in
    IsCharBoundary-before_ascii t (length t - suc k) (omega arith) (padding_ascii _ (subst (λ b. is_padding b ≡ true) same here))

pub end_boundary : (t : List ℕ) → IsCharBoundary t (length t - suffix_len is_padding t)
end_boundary t = at_end t (suffix_len is_padding t) refl

-- the first padding
pub word_boundary : (t : List ℕ) → IsCharBoundary t (position_or_len is_padding t)
word_boundary t =
    let le : position_or_len is_padding t ≤ length t = prefix_len-le-length (λ b. not (is_padding b)) t in
    ⊎_elim
    (λ lt. IsCharBoundary-before_ascii t (position_or_len is_padding t) lt (padding_ascii _ (passes_at_first is_padding t 0 lt)))
    (λ ge. let e : length t ≡ position_or_len is_padding t = omega arith in subst (λ n. IsCharBoundary t n) e (IsCharBoundary-end t))
    (cases_lt (position_or_len is_padding t) (length t))
