-- Where the lines of a standalone tag begin and end: round the tag, after no byte that is not blank, and where a text may be cut.
use Rattle.std.proofs.Common.{◌≡◌, ℕ, ◌+◌, ◌-◌, ◌<◌, ◌≤◌, Bool, true, false, not, ◌&&◌, ◌==◌, ◌⊎◌, inl, inr, List, [], ◌∷◌, length, get_or, take, drop, Option, Some, None, refl, sym, ap, subst, ◌∙◌, arith, ⊎_elim, length-take, length-drop}
use Rattle.std.proofs.lemmas.Bool.{cases_lt, false≢true}
use Rattle.std.proofs.lemmas.Bool.Decides.{nat_tests}
use Rattle.std.proofs.lemmas.List.{get_or-take, get_or-drop}
use Rattle.std.proofs.lemmas.List.Folds.{list_all_at}
use Rattle.std.proofs.lemmas.List.Sums.{prefix_len-le-length, suffix_len-le-length}
use Rattle.std.proofs.lemmas.Str.{IsCharBoundary-start, IsCharBoundary-end, IsCharBoundary-after_ascii}
use Rattle.std.specs.List.{list_all, prefix_len, suffix_len}
use Rattle.std.specs.Str.{IsUtf8, IsCharBoundary}
use Rattle.mustache_scan.specs.Cutting.{is_blank, is_newline}
use Rattle.mustache_scan.specs.Progress.{standalone_of, lines_or, taken}
use Rattle.mustache_scan.specs.Standalone.{line_end, last_line, lines_from, standalone_lines, may_be_standalone}
use Rattle.mustache_scan.specs.declared.token.TokenKind.{TokenKind}
use Rattle.mustache_scan.proofs.LineLemmas.{suffix_stops, newline_is, lines_are}

-- after a newline a text may be cut
after_newline : (t : List ℕ) (i j : ℕ) → IsUtf8 t → i < length t → get_or t i 0 ≡ 10 → i + 1 ≡ j → IsCharBoundary t j
after_newline t i j u l h e = subst (λ n. IsCharBoundary t n) e (IsCharBoundary-after_ascii t i u l (omega (arith, h)))

-- a line's end is the end of the text, or its last byte is a newline
abbrev Ends : List ℕ → ℕ → Type 0
Ends v n = ((n ≡ 0) × (length v ≡ 0)) ⊎ ((0 < n) × (n ≤ length v) × (get_or v (n - 1) 0 ≡ 10))

is_ten : (b : ℕ) → (b == 10) ≡ true → b ≡ 10
is_ten b h = grind (arith, nat_tests)

last_ten : (b c : ℕ) → (b == 13 && c == 10) ≡ true → c ≡ 10
last_ten b c h = grind (arith, nat_tests)

one_end : (b n : ℕ) (e : Bool) → (b == 10) ≡ e → (elim e as (λ _. Option ℕ) [ true ↦ Some 1 | false ↦ None ]) ≡ Some n → Ends (b ∷ []) n
one_end b n true is h =
    let one : n ≡ 1 = cc in
    inr (subst (λ n. (0 < n) × (n ≤ length (b ∷ [])) × (get_or (b ∷ []) (n - 1) 0 ≡ 10)) (sym one) (omega arith, omega arith, is_ten b is))
one_end b n false is h = absurd (cc)

two_end : (b c n : ℕ) (bs : List ℕ) (e : Bool) → (b == 13 && c == 10) ≡ e → (elim e as (λ _. Option ℕ) [ true ↦ Some 2 | false ↦ None ]) ≡ Some n → Ends (b ∷ c ∷ bs) n
two_end b c n bs true is h =
    let two : n ≡ 2 = cc in
    inr (subst (λ n. (0 < n) × (n ≤ length (b ∷ c ∷ bs)) × (get_or (b ∷ c ∷ bs) (n - 1) 0 ≡ 10)) (sym two) (omega arith, omega arith, last_ten b c is))
two_end b c n bs false is h = absurd (cc)

first_end : (b c n : ℕ) (bs : List ℕ) (e : Bool) → (b == 10) ≡ e
    → (elim e as (λ _. Option ℕ) [ true ↦ Some 1 | false ↦ elim (b == 13 && c == 10) [ true ↦ Some 2 | false ↦ None ] ]) ≡ Some n → Ends (b ∷ c ∷ bs) n
first_end b c n bs true is h =
    let one : n ≡ 1 = cc in
    inr (subst (λ n. (0 < n) × (n ≤ length (b ∷ c ∷ bs)) × (get_or (b ∷ c ∷ bs) (n - 1) 0 ≡ 10)) (sym one) (omega arith, omega arith, is_ten b is))
first_end b c n bs false is h = two_end b c n bs (b == 13 && c == 10) refl h

line_ends : (v : List ℕ) (n : ℕ) → line_end v ≡ Some n → Ends v n
line_ends [] n h = let none : n ≡ 0 = cc in inl (none, refl)
line_ends (b ∷ []) n h = one_end b n (b == 10) refl h
line_ends (b ∷ c ∷ bs) n h = first_end b c n bs (b == 10) refl h

-- What lines are: those of a tag with only blanks before it, and blanks and a line's end after it.
record LinesSeen (t : List ℕ) (first past : ℕ) (l : ℕ × ℕ) : Type 0 where
  pub blank : list_all is_blank (last_line (take first t)) ≡ true
  pub len : ℕ
  pub ending : line_end (drop (past + prefix_len is_blank (drop past t)) t) ≡ Some len
  pub start : l.0 ≡ first - length (last_line (take first t))
  pub past_is : l.1 ≡ past + prefix_len is_blank (drop past t) + len

seen_from : (t : List ℕ) (first past : ℕ) (l : ℕ × ℕ) (r : Option ℕ) → list_all is_blank (last_line (take first t)) ≡ true → line_end (drop (past + prefix_len is_blank (drop past t)) t) ≡ r
    → lines_from (first - length (last_line (take first t))) (past + prefix_len is_blank (drop past t)) r ≡ Some l → LinesSeen t first past l
seen_from t first past l None blank is h = absurd (cc)
seen_from t first past l (Some n) blank is h =
    let e : (first - length (last_line (take first t)), past + prefix_len is_blank (drop past t) + n) ≡ l = cc in
    record { blank = blank; len = n; ending = is; start = ap (λ (x : ℕ × ℕ). x.0) (sym e); past_is = ap (λ (x : ℕ × ℕ). x.1) (sym e) }

seen_by : (t : List ℕ) (first past : ℕ) (l : ℕ × ℕ) (b : Bool) → list_all is_blank (last_line (take first t)) ≡ b → standalone_lines t first past ≡ Some l → LinesSeen t first past l
seen_by t first past l true is h = seen_from t first past l _ is refl (sym (lines_are t first past true is) ∙ h)
seen_by t first past l false is h = let e : None ≡ Some l = sym (lines_are t first past false is) ∙ h in absurd (cc)

module _ (t : List ℕ) (first past : ℕ) (l : ℕ × ℕ) (order : first ≤ past) (within : past ≤ length t) (standalone : standalone_lines t first past ≡ Some l) where
  seen : LinesSeen t first past l
  seen = seen_by t first past l _ refl standalone

  -- the newline before the tag's line
  line_len : ℕ
  line_len = suffix_len (λ b. not (is_newline b)) (take first t)

  line_short : line_len ≤ first
  unfolding line_len
  line_short = omega (arith, suffix_len-le-length (λ b. not (is_newline b)) (take first t), length-take first t)

  starts_at : l.0 ≡ first - line_len
  unfolding line_len
  starts_at = omega (arith, seen.start, length-drop (length (take first t) - line_len) (take first t), length-take first t, line_short)

  pub starts_before : l.0 ≤ first
  starts_before = omega (arith, seen.start)

  pub ends_after : past ≤ l.1
  ends_after = omega (arith, seen.past_is)

  -- no byte but blanks stands between
  pub reaches_back : (w : ℕ) → w < first → is_blank (get_or t w 0) ≡ false → w < l.0
  unfolding line_len
  reaches_back w before other = ⊎_elim (λ yes. yes)
      (λ no.
      let u = take first t in
      let long : length u ≡ first = omega (arith, length-take first t) in
      let from : ℕ = length u - line_len in
      let at : from + (w - from) ≡ w = omega (arith, starts_at, long) in
      let read : get_or (last_line u) (w - from) 0 ≡ get_or t w 0 = get_or-drop from u (w - from) 0 ∙ ap (λ n. get_or u n 0) at ∙ get_or-take first t w 0 before in
      absurd (false≢true (sym (list_all_at is_blank (last_line u) (w - from) 0 (omega (arith, length-drop from u, starts_at, line_short, long)) (ap is_blank read ∙ other)) ∙ seen.blank)))
      (cases_lt w l.0)

  pub start_boundary : IsUtf8 t → IsCharBoundary t l.0
  unfolding line_len
  start_boundary u = ⊎_elim
      (λ some.
      let long : length (take first t) ≡ first = omega (arith, length-take first t) in
      let stop = newline_is _ (suffix_stops (λ b. not (is_newline b)) (take first t) (l.0 - 1) (omega (arith, starts_at, line_short, long))) in
      after_newline t (l.0 - 1) l.0 u (omega (arith, starts_before)) (sym (get_or-take first t (l.0 - 1) 0 (omega (arith, starts_before))) ∙ stop) (omega arith))
      (λ none. let e : 0 ≡ l.0 = omega arith in subst (λ n. IsCharBoundary t n) e (IsCharBoundary-start t u))
      (cases_lt 0 l.0)

  pub end_boundary : IsUtf8 t → IsCharBoundary t l.1
  end_boundary u =
      let n : ℕ = past + prefix_len is_blank (drop past t) in
      let inside : n ≤ length t = omega (arith, prefix_len-le-length is_blank (drop past t), length-drop past t) in
      let rest : length (drop n t) ≡ length t - n = length-drop n t in
      ⊎_elim
      (λ over. let e : length t ≡ l.1 = omega (arith, seen.past_is, over.0, over.1) in subst (λ n. IsCharBoundary t n) e (IsCharBoundary-end t))
      (λ line.
      let k : ℕ = seen.len - 1 in
      after_newline t (n + k) l.1 u (omega (arith, line.0, line.1)) (sym (get_or-drop n t k 0) ∙ line.2) (omega (arith, seen.past_is, line.0)))
      (line_ends (drop n t) seen.len seen.ending)

-- the same of what a tag takes
chosen : (b : Bool) (r : Option (ℕ × ℕ)) (l : ℕ × ℕ) → (elim b as (λ _. Option (ℕ × ℕ)) [ true ↦ r | false ↦ None ]) ≡ Some l → r ≡ Some l
chosen true r l h = h
chosen false r l h = absurd (cc)

pub standalone_of_lines : (t : List ℕ) (kind : TokenKind) (first past : ℕ) (l : ℕ × ℕ) → standalone_of t kind first past ≡ Some l → standalone_lines t first past ≡ Some l
standalone_of_lines t kind first past l h = chosen (may_be_standalone kind) (standalone_lines t first past) l h

module _ (t : List ℕ) (kind : TokenKind) (first past : ℕ) (order : first ≤ past) (within : past ≤ length t) where
  starts : (r : Option (ℕ × ℕ)) → standalone_of t kind first past ≡ r → (lines_or first past r).0 ≤ first
  starts None is = omega arith
  starts (Some l) is = starts_before t first past l order within (standalone_of_lines t kind first past l is)

  pub taken_start : (taken t kind first past).0 ≤ first
  taken_start = starts (standalone_of t kind first past) refl

  ends : (r : Option (ℕ × ℕ)) → standalone_of t kind first past ≡ r → past ≤ (lines_or first past r).1
  ends None is = omega arith
  ends (Some l) is = ends_after t first past l order within (standalone_of_lines t kind first past l is)

  pub taken_end : past ≤ (taken t kind first past).1
  taken_end = ends (standalone_of t kind first past) refl

  start_cut : (r : Option (ℕ × ℕ)) → standalone_of t kind first past ≡ r → IsUtf8 t → IsCharBoundary t first → IsCharBoundary t (lines_or first past r).0
  start_cut None is u h = h
  start_cut (Some l) is u h = start_boundary t first past l order within (standalone_of_lines t kind first past l is) u

  pub taken_start_boundary : IsUtf8 t → IsCharBoundary t first → IsCharBoundary t (taken t kind first past).0
  taken_start_boundary = start_cut (standalone_of t kind first past) refl

  end_cut : (r : Option (ℕ × ℕ)) → standalone_of t kind first past ≡ r → IsUtf8 t → IsCharBoundary t past → IsCharBoundary t (lines_or first past r).1
  end_cut None is u h = h
  end_cut (Some l) is u h = end_boundary t first past l order within (standalone_of_lines t kind first past l is) u

  pub taken_end_boundary : IsUtf8 t → IsCharBoundary t past → IsCharBoundary t (taken t kind first past).1
  taken_end_boundary = end_cut (standalone_of t kind first past) refl
