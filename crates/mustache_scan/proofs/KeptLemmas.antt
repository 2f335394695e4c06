-- What is kept of a literal, where its front and its end are taken: one slice.
use Rattle.std.proofs.Common.{◌≡◌, ℕ, suc, ◌+◌, ◌-◌, ◌<◌, ◌≤◌, true, false, ◌||◌, List, [], ◌∷◌, length, map, take, drop, nat_lt, nat_le, refl, sym, ap, ◌∙◌, arith, ⊎_elim}
use Rattle.std.proofs.Math.Seq.{take-nil, drop-nil}
use Rattle.std.proofs.lemmas.Bool.{cases_lt}
use Rattle.std.proofs.lemmas.Bool.Decides.{nat_tests}
use Rattle.mustache_scan.specs.Progress.{literal_at}
use Rattle.mustache_scan.specs.Standalone.{is_covered, kept, literal_of}

pub lt_true : (m n : ℕ) → m < n → nat_lt m n ≡ true
lt_true m n h = grind (arith, nat_tests)

pub lt_false : (m n : ℕ) → n ≤ m → nat_lt m n ≡ false
lt_false m n h = grind (arith, nat_tests)

pub le_true : (m n : ℕ) → m ≤ n → nat_le m n ≡ true
le_true m n h = grind (arith, nat_tests)

pub le_false : (m n : ℕ) → n < m → nat_le m n ≡ false
le_false m n h = grind (arith, nat_tests)

-- the lines take each place before `from`, and each from `to` on up to the end of the bytes
abbrev pub TakesEnds : List (ℕ × ℕ) → ℕ → ℕ → ℕ → ℕ → Type 0
TakesEnds lines at past from to = (k : ℕ) → at ≤ k → k < past → is_covered lines k ≡ (nat_lt k from || nat_le to k)

-- a byte that is taken, and one that is kept
kept_taken : (lines : List (ℕ × ℕ)) (at b : ℕ) (bs : List ℕ) → is_covered lines at ≡ true → kept lines at (b ∷ bs) ≡ kept lines (at + 1) bs
kept_taken lines at b bs h = ap (λ c. elim c [ true ↦ kept lines (at + 1) bs | false ↦ (at, b) ∷ kept lines (at + 1) bs ]) h

kept_here : (lines : List (ℕ × ℕ)) (at b : ℕ) (bs : List ℕ) → is_covered lines at ≡ false → kept lines at (b ∷ bs) ≡ (at, b) ∷ kept lines (at + 1) bs
kept_here lines at b bs h = ap (λ c. elim c [ true ↦ kept lines (at + 1) bs | false ↦ (at, b) ∷ kept lines (at + 1) bs ]) h

module _ (lines : List (ℕ × ℕ)) (from to : ℕ) where
  taken_front : (k : ℕ) → k < from → (nat_lt k from || nat_le to k) ≡ true
  taken_front k h = ap (λ c. c || nat_le to k) (lt_true k from h)

  taken_end : (k : ℕ) → from ≤ k → to ≤ k → (nat_lt k from || nat_le to k) ≡ true
  taken_end k h g = ap (λ c. c || nat_le to k) (lt_false k from h) ∙ le_true to k g

  not_taken : (k : ℕ) → from ≤ k → k < to → (nat_lt k from || nat_le to k) ≡ false
  not_taken k h g = ap (λ c. c || nat_le to k) (lt_false k from h) ∙ le_false to k g

  step : (at : ℕ) (b : ℕ) (bs : List ℕ) → TakesEnds lines at (at + length (b ∷ bs)) from to → TakesEnds lines (at + 1) (at + 1 + length bs) from to
  step at b bs h k low high = h k (omega arith) (omega arith)

  kept_end : (at : ℕ) (bs : List ℕ) → from ≤ at → to ≤ at → TakesEnds lines at (at + length bs) from to → kept lines at bs ≡ []
  kept_end at [] a b h = refl
  kept_end at (b ∷ bs) lo hi h =
      kept_taken lines at b bs (h at (omega arith) (omega arith) ∙ taken_end at lo hi) ∙ kept_end (at + 1) bs (omega arith) (omega arith) (step at b bs h)

  bytes_kept : (at : ℕ) (bs : List ℕ) → from ≤ at → TakesEnds lines at (at + length bs) from to → map (λ x. x.1) (kept lines at bs) ≡ take (to - at) bs
  bytes_kept at [] lo h = sym (take-nil (to - at))
  bytes_kept at (b ∷ bs) lo h = ⊎_elim
      (λ here.
      let n : suc (to - (at + 1)) ≡ to - at = omega arith in
      ap (map (λ x. x.1)) (kept_here lines at b bs (h at (omega arith) (omega arith) ∙ not_taken at lo here))
      ∙ ap (λ l. b ∷ l) (bytes_kept (at + 1) bs (omega arith) (step at b bs h)) ∙ ap (λ n. take n (b ∷ bs)) n)
      (λ past. let n : 0 ≡ to - at = omega arith in ap (map (λ x. x.1)) (kept_end at (b ∷ bs) lo past h) ∙ ap (λ n. take n (b ∷ bs)) n)
      (cases_lt at to)

  literal_kept : (at : ℕ) (bs : List ℕ) → from ≤ at → TakesEnds lines at (at + length bs) from to → literal_of (kept lines at bs) ≡ literal_at at (take (to - at) bs)
  literal_kept at [] lo h = ap (literal_at at) (sym (take-nil (to - at)))
  literal_kept at (b ∷ bs) lo h = ⊎_elim
      (λ here.
      let n : suc (to - (at + 1)) ≡ to - at = omega arith in
      ap literal_of (kept_here lines at b bs (h at (omega arith) (omega arith) ∙ not_taken at lo here))
      ∙ ap (λ l. literal_at at (b ∷ l)) (bytes_kept (at + 1) bs (omega arith) (step at b bs h)) ∙ ap (λ n. literal_at at (take n (b ∷ bs))) n)
      (λ past. let n : 0 ≡ to - at = omega arith in ap literal_of (kept_end at (b ∷ bs) lo past h) ∙ ap (λ n. literal_at at (take n (b ∷ bs))) n)
      (cases_lt at to)

  -- what is kept of a literal
  pub literal_is : (at : ℕ) (bs : List ℕ) → at ≤ from → TakesEnds lines at (at + length bs) from to → literal_of (kept lines at bs) ≡ literal_at from (take (to - from) (drop (from - at) bs))
  literal_is at [] lo h = ap (literal_at from) (sym (ap (take (to - from)) (drop-nil (from - at)) ∙ take-nil (to - from)))
  literal_is at (b ∷ bs) lo h = ⊎_elim
      (λ before.
      let n : suc (from - (at + 1)) ≡ from - at = omega arith in
      ap literal_of (kept_taken lines at b bs (h at (omega arith) (omega arith) ∙ taken_front at before))
      ∙ literal_is (at + 1) bs (omega arith) (step at b bs h) ∙ ap (λ n. literal_at from (take (to - from) (drop n (b ∷ bs)))) n)
      (λ past.
      let e : at ≡ from = omega arith in
      let n : 0 ≡ from - at = omega arith in
      literal_kept at (b ∷ bs) past h ∙ ap (λ m. literal_at m (take (to - m) (b ∷ bs))) e ∙ ap (λ n. literal_at from (take (to - from) (drop n (b ∷ bs)))) n)
      (cases_lt at from)
