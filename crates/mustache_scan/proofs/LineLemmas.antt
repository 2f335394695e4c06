-- The lines of a standalone tag: how the blanks beside it show them, and where they begin and end.
use Rattle.std.proofs.Common.{◌≡◌, ℕ, suc, ◌+◌, ◌-◌, ◌<◌, ◌≤◌, Bool, true, false, not, List, [], ◌∷◌, length, get_or, take, drop, reverse, None, refl, sym, ap, subst, ◌∙◌, arith, ⊎_elim, length-take, length-drop}
use Rattle.std.proofs.lemmas.Bool.{cases_lt, false≢true}
use Rattle.std.proofs.lemmas.Bool.Decides.{nat_tests}
use Rattle.std.proofs.lemmas.List.{get_or-reverse, get_or-take, get_or-drop, length-reverse}
use Rattle.std.proofs.lemmas.List.Folds.{list_all_at, length-prefix_len}
use Rattle.std.proofs.lemmas.List.Sums.{prefix_len_passes, prefix_len_stops, suffix_len-le-length, suffix_len_is}
use Rattle.std.specs.List.{list_all, prefix_len, suffix_len}
use Rattle.mustache_scan.specs.Cutting.{is_blank, is_newline}
use Rattle.mustache_scan.specs.Standalone.{line_end, last_line, lines_from, standalone_lines}

suffix_passes : (p : ℕ → Bool) (u : List ℕ) (i : ℕ) → length u ≤ i + suffix_len p u → i < length u → p (get_or u i 0) ≡ true
suffix_passes p u i low high =
    let le = suffix_len-le-length p u in
    let j : ℕ = length u - 1 - i in
    let back : length u - 1 - (length u - 1 - i) ≡ i = omega arith in
    let same : get_or (reverse u) j 0 ≡ get_or u i 0 = get_or-reverse u j 0 (omega arith) ∙ ap (λ m. get_or u m 0) back in
    subst (λ b. p b ≡ true) same (prefix_len_passes p (reverse u) j 0 (omega arith))

pub suffix_stops : (p : ℕ → Bool) (u : List ℕ) (i : ℕ) → i + 1 + suffix_len p u ≡ length u → p (get_or u i 0) ≡ false
suffix_stops p u i is =
    let n = suffix_len p u in
    let back : length u - 1 - n ≡ i = omega arith in
    let same : get_or (reverse u) n 0 ≡ get_or u i 0 = get_or-reverse u n 0 (omega arith) ∙ ap (λ m. get_or u m 0) back in
    let l : length (reverse u) ≡ length u = length-reverse u in
    subst (λ b. p b ≡ false) same (prefix_len_stops p (reverse u) 0 (omega arith))

all_pass : (p : ℕ → Bool) (u : List ℕ) → ((i : ℕ) → i < length u → p (get_or u i 0) ≡ true) → list_all p u ≡ true
all_pass p [] h = refl
all_pass p (b ∷ bs) h = let here : p b ≡ true = h 0 (omega arith) in rw here (all_pass p bs (λ i l. h (suc i) (omega arith)))

blank_no_newline : (b : ℕ) → is_blank b ≡ true → not (is_newline b) ≡ true
blank_no_newline b h = grind (arith, nat_tests)

newline_stops : (b : ℕ) → b ≡ 10 → not (is_newline b) ≡ false
newline_stops b h = grind (arith, nat_tests)

pub newline_is : (b : ℕ) → not (is_newline b) ≡ false → b ≡ 10
newline_is b h = grind (arith, nat_tests)

pub lines_are : (t : List ℕ) (first past : ℕ) (b : Bool) → list_all is_blank (last_line (take first t)) ≡ b
    → standalone_lines t first past ≡ elim b [ true ↦ lines_from (first - length (last_line (take first t))) (past + prefix_len is_blank (drop past t)) (line_end (drop (past + prefix_len is_blank (drop past t)) t)) | false ↦ None ]
lines_are t first past b is =
    ap (λ n. elim (list_all is_blank (last_line (take first t))) [ true ↦ lines_from (first - length (last_line (take first t))) (past + n) (line_end (drop (past + n) t)) | false ↦ None ]) (length-prefix_len is_blank (drop past t))
    ∙ ap (λ b. elim b [ true ↦ lines_from (first - length (last_line (take first t))) (past + prefix_len is_blank (drop past t)) (line_end (drop (past + prefix_len is_blank (drop past t)) t)) | false ↦ None ]) is

module _ (t : List ℕ) (first past start : ℕ) (le : first ≤ length t) (blanks : start + suffix_len is_blank (take first t) ≡ first) where
  long : length (take first t) ≡ first
  long = omega (arith, length-take first t)

  reads : (i : ℕ) → i < first → get_or (take first t) i 0 ≡ get_or t i 0
  reads i l = get_or-take first t i 0 l

  blank_from : (i : ℕ) → start ≤ i → i < first → is_blank (get_or (take first t) i 0) ≡ true
  blank_from i low high = suffix_passes is_blank (take first t) i (omega (arith, long)) (omega (arith, long))

  -- only blanks are before the tag
  module _ (begins : 0 < start → get_or t (start - 1) 0 ≡ 10) where
    line_len : suffix_len (λ b. not (is_newline b)) (take first t) ≡ length (take first t) - start
    line_len = suffix_len_is (λ b. not (is_newline b)) (take first t) start 0 (omega (arith, long))
        (λ i low high. blank_no_newline _ (blank_from i low (omega (arith, long))))
        (λ some. newline_stops _ (reads (start - 1) (omega arith) ∙ begins some))

    line_is : last_line (take first t) ≡ drop start (take first t)
    line_is = let e : length (take first t) - suffix_len (λ b. not (is_newline b)) (take first t) ≡ start = omega (arith, line_len, long) in ap (λ n. drop n (take first t)) e

    all_blank : list_all is_blank (last_line (take first t)) ≡ true
    all_blank = ap (list_all is_blank) line_is ∙ all_pass is_blank (drop start (take first t))
        (λ i l. ap is_blank (get_or-drop start (take first t) i 0) ∙ blank_from (start + i) (omega arith) (omega (arith, long, length-drop start (take first t))))

    line_at : first - length (last_line (take first t)) ≡ start
    line_at = omega (arith, ap length line_is, length-drop start (take first t), long)

    pub alone : standalone_lines t first past ≡ lines_from start (past + prefix_len is_blank (drop past t)) (line_end (drop (past + prefix_len is_blank (drop past t)) t))
    alone = lines_are t first past true all_blank ∙ ap (λ n. lines_from n (past + prefix_len is_blank (drop past t)) (line_end (drop (past + prefix_len is_blank (drop past t)) t))) line_at

  -- something else does
  module _ (i : ℕ) (is : i + 1 ≡ start) (other : get_or t i 0 ≡ 10 → ⊥) where
    no_blank : is_blank (get_or (take first t) i 0) ≡ false
    no_blank = suffix_stops is_blank (take first t) i (omega (arith, long))

    -- no newline stands between it and the tag
    line_long : first ≤ i + suffix_len (λ b. not (is_newline b)) (take first t)
    line_long = ⊎_elim
        (λ short.
        let m = suffix_len (λ b. not (is_newline b)) (take first t) in
        let j : ℕ = first - 1 - m in
        let stop : get_or (take first t) j 0 ≡ 10 = newline_is _ (suffix_stops (λ b. not (is_newline b)) (take first t) j (omega (arith, long))) in
        ⊎_elim
        (λ here. let e : j ≡ i = omega arith in absurd (other (sym (reads i (omega arith)) ∙ ap (λ n. get_or (take first t) n 0) (sym e) ∙ stop)))
        (λ later. absurd (false≢true (sym (newline_stops _ stop) ∙ blank_no_newline _ (blank_from j (omega arith) (omega arith)))))
        (cases_lt j start))
        (λ long'. long')
        (cases_lt (i + suffix_len (λ b. not (is_newline b)) (take first t)) first)

    some_other : list_all is_blank (last_line (take first t)) ≡ false
    some_other =
        let m = suffix_len (λ b. not (is_newline b)) (take first t) in
        let le' = suffix_len-le-length (λ b. not (is_newline b)) (take first t) in
        let from : ℕ = length (take first t) - m in
        let at : from + (i - from) ≡ i = omega (arith, line_long, long) in
        list_all_at is_blank (last_line (take first t)) (i - from) 0 (omega (arith, length-drop from (take first t), line_long, long))
        (ap is_blank (get_or-drop from (take first t) (i - from) 0 ∙ ap (λ n. get_or (take first t) n 0) at) ∙ no_blank)

    pub shared : standalone_lines t first past ≡ None
    shared = lines_are t first past false some_other
