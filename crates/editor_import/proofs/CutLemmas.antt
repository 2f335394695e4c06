-- What `split_once` finds is a cut at the first place of a part.
use Rattle.std.proofs.Common.{◌≡◌, ℕ, ◌<◌, ◌≤◌, List, ◌++◌, length, take, drop, Option, Some, None, sym, ap, ◌∙◌, arith, ⊎_elim, length-append, take-append-drop}
use Rattle.std.proofs.Math.Seq.{drop-append_seam}
use Rattle.std.proofs.lemmas.Bool.{cases_lt}
use Rattle.std.specs.Borrow.{Bor}
use Rattle.std.specs.Option.{MatchOption, option_map}
use Rattle.std.specs.Str.Pattern.{FindsText, SplitsAroundMatch}
use Rattle.mustache_scan.specs.Cutting.{cut}
use Rattle.mustache_scan.proofs.FirstCutLemmas.{cut_is_first, no_cut_is_nowhere}

module _ (part t : List ℕ) (some : 0 < length part) where
  seam : (c e : List ℕ) → t ≡ c ++ (part ++ e) → drop (length c) t ≡ part ++ e
  seam c e is = ap (drop (length c)) is ∙ drop-append_seam c (part ++ e)

  within : (c e : List ℕ) → t ≡ c ++ (part ++ e) → length c ≤ length t
  within c e is = omega (arith, ap length is, length-append c (part ++ e))

  pub nowhere_is : FindsText part t None → cut part t ≡ None
  nowhere_is none = (no_cut_is_nowhere part t some).1 (λ c e is. none (length c) (within c e is) e (seam c e is))

  pub found_is : (a b : List ℕ) → SplitsAroundMatch (FindsText part) t a b → cut part t ≡ Some (a, b)
  found_is a b h =
      let i : ℕ = h.0 in
      let j : ℕ = h.1 in
      let finds : FindsText part t (Some (i, j)) = h.2 in
      let front : a ≡ take i t = h.3 in
      let back : b ≡ drop j t = h.4 in
      let long : length a ≡ i = h.6 in
      let whole : t ≡ a ++ (part ++ b) =
      sym (take-append-drop i t) ∙ ap (λ l. take i t ++ l) (finds.1.split ∙ ap (λ l. part ++ l) (sym back)) ∙ ap (λ l. l ++ (part ++ b)) (sym front) in
      (cut_is_first part t a b some).1 (record {
        whole = whole;
        first = λ c e is. ⊎_elim (λ before. absurd (finds.0 (length c) before e (seam c e is))) (λ not_before. omega (arith, long)) (cases_lt (length c) i);
      })

  -- the clause of `split_once`
  pub split_is : (r : Option (Bor (List ℕ) × Bor (List ℕ))) → MatchOption r (FindsText part t None) (λ x. SplitsAroundMatch (FindsText part) t x.0.now x.1.now)
      → option_map (λ (x : Bor (List ℕ) × Bor (List ℕ)). (x.0.now, x.1.now)) r ≡ cut part t
  split_is None h = sym (nowhere_is h)
  split_is (Some x) h = sym (found_is x.0.now x.1.now h)
