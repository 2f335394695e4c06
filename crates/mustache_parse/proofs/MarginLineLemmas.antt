-- The line before a tag and the line's end after it, in a text and in the text indented.
use Rattle.std.proofs.Common.{◌≡◌, ℕ, suc, ◌+◌, ◌-◌, Bool, true, false, not, cond, ◌&&◌, ◌==◌, List, [], ◌∷◌, ◌++◌, length, drop, take_while, ◌⊎◌, inl, inr, Option, Some, None, refl, sym, ap, subst, ◌∙◌, arith, append_assoc, append-nil, ⊎_elim, length-append, drop_of_length-le}
use Rattle.std.proofs.lemmas.Bool.{cases_Bool}
use Rattle.std.proofs.lemmas.Bool.Decides.{nat_tests}
use Rattle.std.proofs.lemmas.List.{reverse-append, drop-append-le}
use Rattle.std.proofs.lemmas.List.Sums.{take_while-cons}
use Rattle.std.specs.List.{prefix_len, suffix_len}
use Rattle.mustache_scan.specs.Cutting.{is_padding, is_blank, is_newline}
use Rattle.mustache_scan.specs.Standalone.{last_line, line_end}
use Rattle.mustache_parse.specs.Indent.{indented}
use Rattle.mustache_parse.specs.Indenting.{spread, after_each}
use Rattle.mustache_parse.proofs.IndentLemmas.{AllAre, NoneAre, spread_newline, after_each_other, blank_padding}
use Rattle.mustache_parse.proofs.SpreadLemmas.{spread-plain, spread-before, no_newline}
use Rattle.mustache_parse.proofs.SpreadTagLemmas.{spread-head}
use Rattle.mustache_parse.proofs.MarginTextLemmas.{open_under, IsLineStart, Seam, no_lines, ended, open-append, open-start, indented-seam}

blank_plain : (b : ℕ) → is_blank b ≡ true → is_newline b ≡ false
blank_plain b h = grind (arith, nat_tests)

is_ten : (b : ℕ) → is_newline b ≡ true → b ≡ 10
is_ten b h = grind (arith, nat_tests)

not_blank : (b : ℕ) → is_newline b ≡ true → is_blank b ≡ false
not_blank b h = grind (arith, nat_tests)

pub all-none : (w : List ℕ) → AllAre is_blank w → NoneAre is_newline w
all-none [] h = tt
all-none (b ∷ w) h = (blank_plain b h.0, all-none w h.1)

pub none-both : (xs ys : List ℕ) → NoneAre is_newline xs → NoneAre is_newline ys → NoneAre is_newline (xs ++ ys)
none-both [] ys h k = k
none-both (x ∷ xs) ys h k = (h.0, none-both xs ys h.1 k)

pub after_each-plain : (w l : List ℕ) → NoneAre is_newline l → after_each w l ≡ l
after_each-plain w [] h = refl
after_each-plain w (b ∷ l) h = after_each_other w b l h.0 ∙ ap (λ t. b ∷ t) (after_each-plain w l h.1)

pub spread-none : (w l : List ℕ) → NoneAre is_newline l → spread w l ≡ l
spread-none w [] h = refl
spread-none w (b ∷ l) h = spread-plain w b l h.0 ∙ ap (λ t. b ∷ t) (spread-none w l h.1)

-- ---- the last line

counts : (xs : List ℕ) (b : ℕ) (c : Bool) → is_newline b ≡ c → suffix_len (λ b. not (is_newline b)) (xs ++ b ∷ []) ≡ cond (not c) (1 + suffix_len (λ b. not (is_newline b)) xs) 0
counts xs b c is = ap (prefix_len (λ b. not (is_newline b))) (reverse-append xs (b ∷ [])) ∙ ap (λ c. cond (not c) (1 + suffix_len (λ b. not (is_newline b)) xs) 0) is

last-newline : (y : List ℕ) → last_line (y ++ 10 ∷ []) ≡ []
last-newline y = drop_of_length-le (y ++ 10 ∷ []) (omega (arith, counts y 10 true refl))

last-snoc : (xs : List ℕ) (b : ℕ) → is_newline b ≡ false → last_line (xs ++ b ∷ []) ≡ last_line xs ++ b ∷ []
last-snoc xs b plain =
    let n : length (xs ++ b ∷ []) - suffix_len (λ b. not (is_newline b)) (xs ++ b ∷ []) ≡ length xs - suffix_len (λ b. not (is_newline b)) xs = omega (arith, counts xs b false plain, length-append xs (b ∷ [])) in
    ap (λ n. drop n (xs ++ b ∷ [])) n ∙ drop-append-le (length xs - suffix_len (λ b. not (is_newline b)) xs) xs (b ∷ []) (omega arith)

pub last-append : (xs l : List ℕ) → NoneAre is_newline l → last_line (xs ++ l) ≡ last_line xs ++ l
last-append xs [] h = ap last_line (append-nil xs) ∙ sym (append-nil (last_line xs))
last-append xs (b ∷ l) h =
    ap last_line (sym (append_assoc xs (b ∷ []) l)) ∙ last-append (xs ++ b ∷ []) l h.1 ∙ ap (λ t. t ++ l) (last-snoc xs b h.0) ∙ append_assoc (last_line xs) (b ∷ []) l

pub last-start : (a : List ℕ) → IsLineStart a → last_line a ≡ []
last-start a (inl none) = ap last_line none
last-start a (inr (y, is)) = ap last_line is ∙ last-newline y

-- a text as its lines that ended, and its last one
pub record Split (z : List ℕ) : Type 0 where
  pub first : List ℕ
  pub line : List ℕ
  pub parts : z ≡ first ++ line
  pub plain : NoneAre is_newline line
  pub start : IsLineStart first

split_on : (b : ℕ) (bs : List ℕ) (s : Split bs) → IsLineStart s.first → Split (b ∷ bs)
split_on b bs s (inl none) =
    let same : bs ≡ s.line = s.parts ∙ ap (λ t. t ++ s.line) none in
    ⊎_elim
    (λ newline. record { first = b ∷ []; line = s.line; parts = ap (λ t. b ∷ t) same; plain = s.plain; start = inr ([], ap (λ b. b ∷ []) (is_ten b newline)) })
    (λ other. record { first = []; line = b ∷ s.line; parts = ap (λ t. b ∷ t) same; plain = (other, s.plain); start = inl refl })
    (cases_Bool (is_newline b))
split_on b bs s (inr (y, is)) = record { first = b ∷ s.first; line = s.line; parts = ap (λ t. b ∷ t) s.parts; plain = s.plain; start = inr (b ∷ y, ap (λ t. b ∷ t) is) }

pub split : (z : List ℕ) → Split z
split [] = record { first = []; line = []; parts = refl; plain = tt; start = inl refl }
split (b ∷ bs) = let s = split bs in split_on b bs s s.start

pub last-split : (z : List ℕ) (s : Split z) → last_line z ≡ s.line
last-split z s = ap last_line s.parts ∙ last-append s.first s.line s.plain ∙ ap (λ t. t ++ s.line) (last-start s.first s.start)

module _ (w : List ℕ) (blank : AllAre is_blank w) where
  -- the lines that ended are indented, and the margin is before the last
  pub open-split : (z : List ℕ) (s : Split z) → open_under w z ≡ indented w s.first ++ (w ++ s.line)
  open-split z s =
      ap (open_under w) s.parts ∙ open-append w s.first s.line ∙ ap (λ t. open_under w s.first ++ t) (after_each-plain w s.line s.plain)
      ∙ ap (λ t. t ++ s.line) (open-start w s.first s.start) ∙ append_assoc (indented w s.first) w s.line

  indented-start : (a : List ℕ) → IsLineStart a → IsLineStart (indented w a)
  indented-start a (inl none) = inl (ap (indented w) none ∙ no_lines w)
  indented-start a (inr (y, is)) = inr (open_under w y, ap (indented w) is ∙ ended w y ∙ sym (append_assoc w (after_each w y) (10 ∷ [])))

  pub last-open : (z : List ℕ) → last_line (open_under w z) ≡ w ++ last_line z
  last-open z =
      let s = split z in
      ap last_line (open-split z s) ∙ last-append (indented w s.first) (w ++ s.line) (none-both w s.line (all-none w blank) s.plain)
      ∙ ap (λ t. t ++ (w ++ s.line)) (last-start (indented w s.first) (indented-start s.first s.start)) ∙ ap (λ t. w ++ t) (sym (last-split z s))

-- ---- what follows a tag

module _ (w : List ℕ) where
  blanks-cons : (b : ℕ) (bs : List ℕ) (c : Bool) → is_blank b ≡ c → take_while is_blank (b ∷ bs) ≡ cond c (b ∷ take_while is_blank bs) []
  blanks-cons b bs c is = take_while-cons is_blank b bs ∙ ap (λ c. cond c (b ∷ take_while is_blank bs) []) is

  pub blanks-same : (r : List ℕ) → take_while is_blank (spread w r) ≡ take_while is_blank r
  blanks-same [] = refl
  blanks-same (b ∷ []) = refl
  blanks-same (b ∷ c ∷ bs) = ⊎_elim
      (λ newline.
      ap (take_while is_blank) (spread_newline w b c bs newline) ∙ blanks-cons b (w ++ spread w (c ∷ bs)) false (not_blank b newline) ∙ sym (blanks-cons b (c ∷ bs) false (not_blank b newline)))
      (λ other.
      ap (take_while is_blank) (spread-plain w b (c ∷ bs) other) ∙ blanks-cons b (spread w (c ∷ bs)) (is_blank b) refl ∙ ap (λ t. cond (is_blank b) (b ∷ t) []) (blanks-same (c ∷ bs)) ∙ sym (blanks-cons b (c ∷ bs) (is_blank b) refl))
      (cases_Bool (is_newline b))

  end-newline : (b : ℕ) (x : List ℕ) → is_newline b ≡ true → line_end (b ∷ x) ≡ Some 1
  end-newline b [] h = rw (h, line_end)
  end-newline b (c ∷ x) h = rw (h, line_end)

  end-spread : (r : List ℕ) → line_end (spread w r) ≡ line_end r
  end-spread [] = refl
  end-spread (b ∷ []) = refl
  end-spread (b ∷ c ∷ bs) = ⊎_elim
      (λ newline. ap line_end (spread_newline w b c bs newline) ∙ end-newline b _ newline ∙ sym (end-newline b (c ∷ bs) newline))
      (λ other. let head = spread-head w c bs in ap line_end (spread-plain w b (c ∷ bs) other) ∙ ap (λ t. line_end (b ∷ t)) head.1)
      (cases_Bool (is_newline b))

  drop-spread : (b : ℕ) (bs : List ℕ) (t : List ℕ) (c : Bool) → is_blank b ≡ c → t ≡ spread w bs → line_end (drop (length (take_while is_blank bs)) t) ≡ line_end (drop (length (take_while is_blank bs)) bs)
      → line_end (drop (length (take_while is_blank (b ∷ bs))) (spread w (b ∷ bs))) ≡ line_end (drop (length (take_while is_blank (b ∷ bs))) (b ∷ bs))
  drop-spread b bs t true is same ih =
      ap (λ l. line_end (drop (length l) (spread w (b ∷ bs)))) (blanks-cons b bs true is) ∙ ap (λ l. line_end (drop (suc (length (take_while is_blank bs))) l)) (spread-plain w b bs (blank_plain b is))
      ∙ ap (λ l. line_end (drop (length (take_while is_blank bs)) l)) (sym same) ∙ ih ∙ ap (λ l. line_end (drop (length l) (b ∷ bs))) (sym (blanks-cons b bs true is))
  drop-spread b bs t false is same ih =
      ap (λ l. line_end (drop (length l) (spread w (b ∷ bs)))) (blanks-cons b bs false is) ∙ end-spread (b ∷ bs) ∙ ap (λ l. line_end (drop (length l) (b ∷ bs))) (sym (blanks-cons b bs false is))

  pub end-same : (r : List ℕ) → line_end (drop (length (take_while is_blank r)) (spread w r)) ≡ line_end (drop (length (take_while is_blank r)) r)
  end-same [] = refl
  end-same (b ∷ bs) = drop-spread b bs (spread w bs) (is_blank b) refl refl (end-same bs)

-- What a standalone tag takes after it: blanks, and a newline or the text's end.
pub record Behind (r : List ℕ) (n : ℕ) : Type 0 where
  pub taken : List ℕ
  pub left : List ℕ
  pub parts : r ≡ taken ++ left
  pub len : length taken ≡ n
  pub padding : AllAre is_padding taken
  pub how : (NoneAre is_newline taken × (left ≡ [])) ⊎ ((f : List ℕ) × (taken ≡ f ++ 10 ∷ []) × NoneAre is_newline f)

ten-two : (b c : ℕ) → (b == 13 && c == 10) ≡ true → (c ≡ 10) × (is_newline b ≡ false) × (is_padding b ≡ true) × (is_padding c ≡ true)
ten-two b c h = (grind (arith, nat_tests), grind (arith, nat_tests), grind (arith, nat_tests), grind (arith, nat_tests))

ten_padding : (b : ℕ) → is_newline b ≡ true → is_padding b ≡ true
ten_padding b h = grind (arith, nat_tests)

one-taken : (b n : ℕ) (bs : List ℕ) → is_newline b ≡ true → n ≡ 1 → Behind (b ∷ bs) n
one-taken b n bs newline one = record { taken = b ∷ []; left = bs; parts = refl; len = sym one; padding = (ten_padding b newline, tt); how = inr ([], ap (λ b. b ∷ []) (is_ten b newline), tt) }

behind-one : (b n : ℕ) (e : Bool) → is_newline b ≡ e → (elim e as (λ _. Option ℕ) [ true ↦ Some 1 | false ↦ None ]) ≡ Some n → Behind (b ∷ []) n
behind-one b n true is h = one-taken b n [] is cc
behind-one b n false is h = absurd (cc)

behind-two : (b c n : ℕ) (bs : List ℕ) (e : Bool) → (b == 13 && c == 10) ≡ e → (elim e as (λ _. Option ℕ) [ true ↦ Some 2 | false ↦ None ]) ≡ Some n → Behind (b ∷ c ∷ bs) n
behind-two b c n bs true is h =
    let k = ten-two b c is in
    let two : n ≡ 2 = cc in
    record { taken = b ∷ c ∷ []; left = bs; parts = refl; len = sym two; padding = (k.2, (k.3, tt)); how = inr (b ∷ [], ap (λ c. b ∷ c ∷ []) k.0, (k.1, tt)) }
behind-two b c n bs false is h = absurd (cc)

behind-first : (b c n : ℕ) (bs : List ℕ) (e : Bool) → is_newline b ≡ e
    → (elim e as (λ _. Option ℕ) [ true ↦ Some 1 | false ↦ elim (b == 13 && c == 10) [ true ↦ Some 2 | false ↦ None ] ]) ≡ Some n → Behind (b ∷ c ∷ bs) n
behind-first b c n bs true is h = one-taken b n (c ∷ bs) is cc
behind-first b c n bs false is h = behind-two b c n bs (b == 13 && c == 10) refl h

behind-end : (r : List ℕ) (n : ℕ) → line_end r ≡ Some n → Behind r n
behind-end [] n h = let none : n ≡ 0 = cc in record { taken = []; left = []; parts = refl; len = sym none; padding = tt; how = inl (tt, refl) }
behind-end (b ∷ []) n h = behind-one b n (is_newline b) refl h
behind-end (b ∷ c ∷ bs) n h = behind-first b c n bs (is_newline b) refl h

-- a blank before it
blank-behind : (b n : ℕ) (r : List ℕ) → is_blank b ≡ true → Behind r n → Behind (b ∷ r) (suc n)
blank-behind b n r is h = record {
  taken = b ∷ h.taken;
  left = h.left;
  parts = ap (λ t. b ∷ t) h.parts;
  len = ap suc h.len;
  padding = (blank_padding b is, h.padding);
  how = ⊎_elim (λ k. inl ((blank_plain b is, k.0), k.1)) (λ k. inr (b ∷ k.0, ap (λ t. b ∷ t) k.1, (blank_plain b is, k.2))) h.how;
}

by_blank : (b n : ℕ) (bs : List ℕ) (c : Bool) → is_blank b ≡ c → ((k : ℕ) → line_end (drop (length (take_while is_blank bs)) bs) ≡ Some k → Behind bs (length (take_while is_blank bs) + k))
    → line_end (drop (length (take_while is_blank (b ∷ bs))) (b ∷ bs)) ≡ Some n → Behind (b ∷ bs) (length (take_while is_blank (b ∷ bs)) + n)
by_blank b n bs true is ih h =
    let e : take_while is_blank (b ∷ bs) ≡ b ∷ take_while is_blank bs = blanks-cons [] b bs true is in
    let len : suc (length (take_while is_blank bs) + n) ≡ length (take_while is_blank (b ∷ bs)) + n = omega (arith, ap length e) in
    subst (Behind (b ∷ bs)) len (blank-behind b (length (take_while is_blank bs) + n) bs is (ih n (ap (λ l. line_end (drop (length l) (b ∷ bs))) (sym e) ∙ h)))
by_blank b n bs false is ih h =
    let e : take_while is_blank (b ∷ bs) ≡ [] = blanks-cons [] b bs false is in
    let len : n ≡ length (take_while is_blank (b ∷ bs)) + n = omega (arith, ap length e) in
    subst (Behind (b ∷ bs)) len (behind-end (b ∷ bs) n (ap (λ l. line_end (drop (length l) (b ∷ bs))) (sym e) ∙ h))

pub behind : (r : List ℕ) (n : ℕ) → line_end (drop (length (take_while is_blank r)) r) ≡ Some n → Behind r (length (take_while is_blank r) + n)
behind [] n h = let e : n ≡ 0 + n = omega arith in subst (Behind []) e (behind-end [] n h)
behind (b ∷ bs) n h = by_blank b n bs (is_blank b) refl (behind bs) h

module _ (w : List ℕ) (y : List ℕ) (c : ℕ) (r : List ℕ) (n : ℕ) (solid : is_padding c ≡ false) (h : Behind r n) where
  u : List ℕ
  u = y ++ c ∷ []

  taken-same : (k : (NoneAre is_newline h.taken × (h.left ≡ [])) ⊎ ((f : List ℕ) × (h.taken ≡ f ++ 10 ∷ []) × NoneAre is_newline f)) → spread w h.taken ≡ h.taken
  taken-same (inl k) = spread-none w h.taken k.0
  taken-same (inr k) = ap (spread w) k.1 ∙ spread-before w k.0 10 [] ∙ ap (λ t. t ++ 10 ∷ []) (after_each-plain w k.0 k.2) ∙ sym k.1

  -- after it a line begins, or the text ends
  pub behind-under : indented w ((y ++ c ∷ []) ++ h.taken) ≡ open_under w (y ++ c ∷ []) ++ h.taken
  behind-under = indented-seam w y c h.taken (no_newline c solid) ∙ ap (λ t. open_under w (y ++ c ∷ []) ++ t) (taken-same h.how)

  seam_by : (k : (NoneAre is_newline h.taken × (h.left ≡ [])) ⊎ ((f : List ℕ) × (h.taken ≡ f ++ 10 ∷ []) × NoneAre is_newline f)) → Seam true ((y ++ c ∷ []) ++ h.taken) h.left
  seam_by (inl k) = inr k.1
  seam_by (inr k) = inl (inr ((y ++ c ∷ []) ++ k.0, ap (λ t. (y ++ c ∷ []) ++ t) k.1 ∙ sym (append_assoc (y ++ c ∷ []) k.0 (10 ∷ []))))

  pub behind-seam : Seam true ((y ++ c ∷ []) ++ h.taken) h.left
  behind-seam = seam_by h.how
