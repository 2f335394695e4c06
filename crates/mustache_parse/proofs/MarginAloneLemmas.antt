-- A tag is standalone in an indented text if and only if it is in the text, and what it leaves of the literal
-- before it is that literal under the margin.
use Rattle.std.proofs.Common.{◌≡◌, ℕ, ◌+◌, ◌-◌, ◌<◌, ◌≤◌, Bool, true, false, not, ◌&&◌, List, [], ◌∷◌, ◌++◌, length, take, drop, take_while, is_some, slice_range, ◌⊎◌, inl, inr, Option, Some, None, refl, sym, ap, subst, ◌∙◌, arith, append_assoc, append-nil, length-append}
use Rattle.std.proofs.Math.Seq.{take-append_seam, drop-append_seam, drop-append-add}
use Rattle.std.proofs.lemmas.Bool.{false≢true}
use Rattle.std.proofs.lemmas.Bool.Decides.{nat_tests}
use Rattle.std.proofs.lemmas.List.Folds.{list_all-append}
use Rattle.std.specs.List.{list_all}
use Rattle.mustache_scan.specs.Cutting.{is_padding, is_blank, is_newline}
use Rattle.mustache_scan.specs.Progress.{standalone_of, lines_or}
use Rattle.mustache_scan.specs.Standalone.{last_line, line_end, lines_from, standalone_lines, may_be_standalone}
use Rattle.mustache_scan.specs.declared.token.TokenKind.{TokenKind}
use Rattle.mustache_parse.specs.Indent.{indented}
use Rattle.mustache_parse.specs.Indenting.{spread, after_each, AreBlank}
use Rattle.mustache_parse.specs.Margin.{literal_under, indent_under}
use Rattle.mustache_parse.proofs.IndentLemmas.{AllAre, NoneAre}
use Rattle.mustache_parse.proofs.SpreadLemmas.{no_newline}
use Rattle.mustache_parse.proofs.MarginTextLemmas.{open_under, front_under, IsLineStart, Seam, goes-on, ends, open-append}
use Rattle.mustache_parse.proofs.MarginLineLemmas.{Split, split, last-split, open-split, last-open, last-append, blanks-same, end-same, behind, behind-under, behind-seam}

abbrev pub blanks : List ℕ → ℕ
blanks r = length (take_while is_blank r)

-- a slice of a text
pub slice-at : (t a l c : List ℕ) (from to : ℕ) → t ≡ a ++ (l ++ c) → from ≡ length a → to ≡ length (a ++ l) → slice_range t from to ≡ l
slice-at t a l c from to is begins ends =
    let n : to - from ≡ length l = omega (arith, length-append a l) in
    ap (λ t. slice_range t from to) is ∙ ap (λ k. take (to - from) (drop k (a ++ (l ++ c)))) begins ∙ ap (take (to - from)) (drop-append_seam a (l ++ c)) ∙ ap (λ k. take k (l ++ c)) n ∙ take-append_seam l c

-- the lines of a tag, by what is before it and after it
abbrev lines_by : List ℕ → ℕ → ℕ → List ℕ → List ℕ → List ℕ → Option (ℕ × ℕ)
lines_by before first past r behind t = elim (list_all is_blank before) [ true ↦ lines_from (first - length before) (past + blanks r) (line_end behind) | false ↦ None ]

lines-at : (t z body r : List ℕ) → t ≡ (z ++ body) ++ r
    → standalone_lines t (length z) (length (z ++ body)) ≡ lines_by (last_line z) (length z) (length (z ++ body)) r (drop (blanks r) r) t
lines-at t z body r is =
    let first = length z in
    let past = length (z ++ body) in
    let front : take first t ≡ z = ap (take first) (is ∙ append_assoc z body r) ∙ take-append_seam z (body ++ r) in
    let back : drop past t ≡ r = ap (drop past) is ∙ drop-append_seam (z ++ body) r in
    let further : drop (past + blanks r) t ≡ drop (blanks r) r = ap (drop (past + blanks r)) is ∙ drop-append-add (z ++ body) r (blanks r) in
    ap (λ l. lines_by (last_line l) first past (drop past t) (drop (past + blanks (drop past t)) t) t) front
    ∙ ap (λ l. lines_by (last_line z) first past l (drop (past + blanks l) t) t) back
    ∙ ap (λ l. lines_by (last_line z) first past r l t) further

-- A tag that is standalone in both texts.
pub record BothAlone (w z r : List ℕ) (first past first' past' : ℕ) (o o' : Option (ℕ × ℕ)) : Type 0 where
  pub blank : list_all is_blank (last_line z) ≡ true
  pub len : ℕ
  pub ending : line_end (drop (blanks r) r) ≡ Some len
  pub here : o ≡ Some (first - length (last_line z), past + blanks r + len)
  pub there : o' ≡ Some (first' - length (w ++ last_line z), past' + blanks r + len)

abbrev pub Alike : (w z r : List ℕ) (first past first' past' : ℕ) (o o' : Option (ℕ × ℕ)) → Type 0
Alike w z r first past first' past' o o' = BothAlone w z r first past first' past' o o' ⊎ ((o ≡ None) × (o' ≡ None))

abbrev given : Bool → ℕ → ℕ → Option ℕ → Option (ℕ × ℕ)
given b start past n = elim b [ true ↦ lines_from start past n | false ↦ None ]

module _ (w : List ℕ) (blank : AllAre is_blank w) (all : AreBlank w) (z body r t t' : List ℕ) (is : t ≡ (z ++ body) ++ r) (is' : t' ≡ open_under w (z ++ body) ++ spread w r) where
  abbrev past : ℕ
  past = length (z ++ body)

  abbrev first' : ℕ
  first' = length (open_under w z)

  abbrev past' : ℕ
  past' = length (open_under w (z ++ body))

  there-lines : standalone_lines t' first' past' ≡ given (list_all is_blank (last_line z)) (first' - length (w ++ last_line z)) (past' + blanks r) (line_end (drop (blanks r) r))
  there-lines =
      let inner : open_under w (z ++ body) ≡ open_under w z ++ after_each w body = open-append w z body in
      let same : list_all is_blank (w ++ last_line z) ≡ list_all is_blank (last_line z) = list_all-append is_blank w (last_line z) ∙ ap (λ c. c && list_all is_blank (last_line z)) all in
      ap (λ n. standalone_lines t' first' n) (ap length inner)
      ∙ lines-at t' (open_under w z) (after_each w body) (spread w r) (is' ∙ ap (λ l. l ++ spread w r) inner)
      ∙ ap (λ n. given (list_all is_blank (last_line (open_under w z))) (first' - length (last_line (open_under w z))) (n + blanks (spread w r)) (line_end (drop (blanks (spread w r)) (spread w r)))) (sym (ap length inner))
      ∙ ap (λ l. given (list_all is_blank l) (first' - length l) (past' + blanks (spread w r)) (line_end (drop (blanks (spread w r)) (spread w r)))) (last-open w blank z)
      ∙ ap (λ l. given (list_all is_blank (w ++ last_line z)) (first' - length (w ++ last_line z)) (past' + length l) (line_end (drop (length l) (spread w r)))) (blanks-same w r)
      ∙ ap (λ n. given (list_all is_blank (w ++ last_line z)) (first' - length (w ++ last_line z)) (past' + blanks r) n) (end-same w r)
      ∙ ap (λ b. given b (first' - length (w ++ last_line z)) (past' + blanks r) (line_end (drop (blanks r) r))) same

  by_end : (n : Option ℕ) → line_end (drop (blanks r) r) ≡ n → list_all is_blank (last_line z) ≡ true
      → Alike w z r (length z) past first' past' (lines_from (length z - length (last_line z)) (past + blanks r) n) (lines_from (first' - length (w ++ last_line z)) (past' + blanks r) n)
  by_end None ending holds = inr (refl, refl)
  by_end (Some n) ending holds = inl (record { blank = holds; len = n; ending = ending; here = refl; there = refl })

  by_line : (b : Bool) → list_all is_blank (last_line z) ≡ b
      → Alike w z r (length z) past first' past' (given b (length z - length (last_line z)) (past + blanks r) (line_end (drop (blanks r) r))) (given b (first' - length (w ++ last_line z)) (past' + blanks r) (line_end (drop (blanks r) r)))
  by_line true holds = by_end (line_end (drop (blanks r) r)) refl holds
  by_line false fails = inr (refl, refl)

  lines-alike : Alike w z r (length z) past first' past' (standalone_lines t (length z) past) (standalone_lines t' first' past')
  lines-alike =
      let Is : Option (ℕ × ℕ) → Option (ℕ × ℕ) → Type 0 = Alike w z r (length z) past first' past' in
      subst (λ o. Is o (standalone_lines t' first' past')) (sym (lines-at t z body r is)) (subst (Is _) (sym there-lines) (by_line (list_all is_blank (last_line z)) refl))

  by_kind : (c : Bool) → Alike w z r (length z) past first' past' (elim c [ true ↦ standalone_lines t (length z) past | false ↦ None ]) (elim c [ true ↦ standalone_lines t' first' past' | false ↦ None ])
  by_kind true = lines-alike
  by_kind false = inr (refl, refl)

  -- whether a tag is standalone, in both texts
  pub alike : (kind : TokenKind) → Alike w z r (length z) past first' past' (standalone_of t kind (length z) past) (standalone_of t' kind first' past')
  alike kind = by_kind (may_be_standalone kind)

-- ---- what is left of the literal before it

not_all : (y : List ℕ) (c : ℕ) (l : List ℕ) → is_padding c ≡ false → NoneAre is_newline l → list_all is_blank (last_line ((y ++ c ∷ []) ++ l)) ≡ true → ⊥
not_all y c l solid plain h =
    let other : is_blank c ≡ false = grind (arith, nat_tests) in
    let last : last_line ((y ++ c ∷ []) ++ l) ≡ last_line y ++ c ∷ l = ap last_line (append_assoc y (c ∷ []) l) ∙ last-append y (c ∷ l) (no_newline c solid, plain) in
    let none : list_all is_blank (last_line y ++ c ∷ l) ≡ false = list_all-append is_blank (last_line y) (c ∷ l) ∙ ap (λ b. list_all is_blank (last_line y) && (b && list_all is_blank l)) other ∙ and_false (list_all is_blank (last_line y)) in
    false≢true (sym none ∙ ap (list_all is_blank) (sym last) ∙ h)
  where
    and_false : (b : Bool) → (b && false) ≡ false
    and_false true = refl
    and_false false = refl

-- a line that begins after a seam
start-by : (leads : Bool) (a m v : List ℕ) (s : Split m) → Seam leads a v → 0 < length v → list_all is_blank (last_line (a ++ m)) ≡ true → IsLineStart s.first → IsLineStart (a ++ s.first)
start-by true a m v s (inl start) some holds (inl none) = subst IsLineStart (sym (ap (λ l. a ++ l) none ∙ append-nil a)) start
start-by true a m v s (inr end) some holds (inl none) = absurd (omega (arith, ap length end))
start-by false a m v s (y, c, is, solid) some holds (inl none) =
    absurd (not_all y c s.line solid s.plain (ap (λ l. list_all is_blank (last_line l)) (ap (λ a. a ++ s.line) (sym is) ∙ ap (λ l. a ++ l) (ap (λ l. l ++ s.line) (sym none) ∙ sym s.parts)) ∙ holds))
start-by leads a m v s seam some holds (inr (y, is)) = inr (a ++ y, ap (λ l. a ++ l) is ∙ sym (append_assoc a y (10 ∷ [])))

-- The literal before a tag and the tag's indentation, in both texts.
pub record Chunk (w t t' : List ℕ) (leads : Bool) (from from' first past first' past' : ℕ) (o o' : Option (ℕ × ℕ)) : Type 0 where
  pub lit : List ℕ
  pub here : slice_range t from (lines_or first past o).0 ≡ lit
  pub there : slice_range t' from' (lines_or first' past' o').0 ≡ literal_under w leads (not (is_some o)) lit
  pub indent : slice_range t' (lines_or first' past' o').0 first' ≡ indent_under w (is_some o) (slice_range t (lines_or first past o).0 first)

module _ (w : List ℕ) (blank : AllAre is_blank w) (leads : Bool) (a m v body r t t' : List ℕ) (seam : Seam leads a v) (some : 0 < length v) (fits : length m ≤ length v)
    (is : t ≡ ((a ++ m) ++ body) ++ r) (is' : t' ≡ open_under w ((a ++ m) ++ body) ++ spread w r) where
  abbrev z : List ℕ
  z = a ++ m

  abbrev Here : Option (ℕ × ℕ) → Option (ℕ × ℕ) → Type 0
  Here o o' = Chunk w t t' leads (length a) (length (front_under w leads a)) (length z) (length (z ++ body)) (length (open_under w z)) (length (open_under w (z ++ body))) o o'

  whole : t ≡ a ++ (m ++ (body ++ r))
  whole = is ∙ append_assoc z body r ∙ append_assoc a m (body ++ r)

  whole' : t' ≡ open_under w z ++ (after_each w body ++ spread w r)
  whole' = is' ∙ ap (λ l. l ++ spread w r) (open-append w z body) ∙ append_assoc (open_under w z) (after_each w body) (spread w r)

  none_of : (t : List ℕ) (n : ℕ) → slice_range t n n ≡ []
  none_of t n = let e : n - n ≡ 0 = omega arith in ap (λ k. take k (drop n t)) e

  inline : Here None None
  inline =
      let lit' = literal_under w leads true m in
      let parts : open_under w z ≡ front_under w leads a ++ lit' = goes-on w leads a m v seam some in
      record {
        lit = m;
        here = slice-at t a m (body ++ r) (length a) (length z) whole refl refl;
        there = slice-at t' (front_under w leads a) lit' (after_each w body ++ spread w r) (length (front_under w leads a)) (length (open_under w z))
            (whole' ∙ ap (λ l. l ++ (after_each w body ++ spread w r)) parts ∙ append_assoc (front_under w leads a) lit' (after_each w body ++ spread w r)) refl (ap length parts);
        indent = none_of t' (length (open_under w z));
      }

  module _ (holds : list_all is_blank (last_line z) ≡ true) (e e' : ℕ) where
    abbrev s : Split m
    s = split m

    starts : IsLineStart (a ++ s.first)
    starts = start-by leads a m v s seam some holds s.start

    abbrev sz : Split z
    sz = record { first = a ++ s.first; line = s.line; parts = ap (λ l. a ++ l) s.parts ∙ sym (append_assoc a s.first s.line); plain = s.plain; start = starts }

    last : last_line z ≡ s.line
    last = last-split z sz

    parts : open_under w z ≡ indented w (a ++ s.first) ++ (w ++ s.line)
    parts = open-split w blank z sz

    abbrev lit' : List ℕ
    lit' = literal_under w leads false s.first

    lines : indented w (a ++ s.first) ≡ front_under w leads a ++ lit'
    lines = ends w leads a s.first v seam (omega (arith, ap length s.parts, length-append s.first s.line))

    first_len : length z - length (last_line z) ≡ length (a ++ s.first)
    first_len = omega (arith, ap length last, ap length sz.parts, length-append (a ++ s.first) s.line)

    first_len' : length (open_under w z) - length (w ++ last_line z) ≡ length (indented w (a ++ s.first))
    first_len' = omega (arith, ap length last, length-append w (last_line z), length-append w s.line, ap length parts, length-append (indented w (a ++ s.first)) (w ++ s.line))

    alone : Here (Some (length z - length (last_line z), e)) (Some (length (open_under w z) - length (w ++ last_line z), e'))
    alone =
        let rest = body ++ r in
        let rest' = after_each w body ++ spread w r in
        let split_t : t ≡ (a ++ s.first) ++ (s.line ++ rest) = is ∙ append_assoc z body r ∙ ap (λ l. l ++ rest) sz.parts ∙ append_assoc (a ++ s.first) s.line rest in
        let split_t' : t' ≡ indented w (a ++ s.first) ++ ((w ++ s.line) ++ rest') = whole' ∙ ap (λ l. l ++ rest') parts ∙ append_assoc (indented w (a ++ s.first)) (w ++ s.line) rest' in
        let front = front_under w leads a in
        record {
          lit = s.first;
          here = slice-at t a s.first (s.line ++ rest) (length a) _ (split_t ∙ append_assoc a s.first (s.line ++ rest)) refl first_len;
          there = slice-at t' front lit' ((w ++ s.line) ++ rest') (length front) _
              (split_t' ∙ ap (λ l. l ++ ((w ++ s.line) ++ rest')) lines ∙ append_assoc front lit' ((w ++ s.line) ++ rest')) refl (first_len' ∙ ap length lines);
          indent =
              slice-at t' (indented w (a ++ s.first)) (w ++ s.line) rest' _ (length (open_under w z)) split_t' first_len' (ap length parts)
              ∙ ap (λ l. w ++ l) (sym (slice-at t (a ++ s.first) s.line rest _ (length z) split_t first_len (ap length sz.parts)));
        }

  pub chunk : (o o' : Option (ℕ × ℕ)) → Alike w z r (length z) (length (z ++ body)) (length (open_under w z)) (length (open_under w (z ++ body))) o o' → Here o o'
  chunk o o' (inr (none, none')) = subst (λ o. Here o o') (sym none) (subst (Here None) (sym none') inline)
  chunk o o' (inl h) = subst (λ o. Here o o') (sym h.here) (subst (Here _) (sym h.there) (alone h.blank _ _))

-- ---- where the next literal begins

pub record Next (w r u : List ℕ) (leads : Bool) (from from' : ℕ) : Type 0 where
  pub eaten : List ℕ
  pub left : List ℕ
  pub parts : r ≡ eaten ++ left
  pub padding : AllAre is_padding eaten
  pub seam : Seam leads (u ++ eaten) left
  pub from_is : from ≡ length (u ++ eaten)
  pub from_is' : from' ≡ length (front_under w leads (u ++ eaten))

module _ (w z r y : List ℕ) (c : ℕ) (solid : is_padding c ≡ false) (first first' : ℕ) where
  abbrev u : List ℕ
  u = y ++ c ∷ []

  abbrev After : Option (ℕ × ℕ) → Option (ℕ × ℕ) → Type 0
  After o o' = Next w r (y ++ c ∷ []) (is_some o) (lines_or first (length (y ++ c ∷ [])) o).1 (lines_or first' (length (open_under w (y ++ c ∷ []))) o').1

  after-inline : After None None
  after-inline = record {
    eaten = [];
    left = r;
    parts = refl;
    padding = tt;
    seam = (y, c, append-nil (y ++ c ∷ []), solid);
    from_is = ap length (sym (append-nil (y ++ c ∷ [])));
    from_is' = ap (λ l. length (open_under w l)) (sym (append-nil (y ++ c ∷ [])));
  }

  after-alone : (n e e' : ℕ) → line_end (drop (blanks r) r) ≡ Some n → After (Some (e, length (y ++ c ∷ []) + blanks r + n)) (Some (e', length (open_under w (y ++ c ∷ [])) + blanks r + n))
  after-alone n e e' ending =
      let h = behind r n ending in
      record {
        eaten = h.taken;
        left = h.left;
        parts = h.parts;
        padding = h.padding;
        seam = behind-seam w y c r (blanks r + n) solid h;
        from_is = omega (arith, h.len, length-append (y ++ c ∷ []) h.taken);
        from_is' = omega (arith, h.len, ap length (behind-under w y c r (blanks r + n) solid h), length-append (open_under w (y ++ c ∷ [])) h.taken);
      }

  pub next : (o o' : Option (ℕ × ℕ)) → Alike w z r first (length (y ++ c ∷ [])) first' (length (open_under w (y ++ c ∷ []))) o o' → After o o'
  next o o' (inr (none, none')) = subst (λ o. After o o') (sym none) (subst (After None) (sym none') after-inline)
  next o o' (inl h) = subst (λ o. After o o') (sym h.here) (subst (After (Some (first - length (last_line z), length (y ++ c ∷ []) + blanks r + h.len))) (sym h.there) (after-alone h.len (first - length (last_line z)) (first' - length (w ++ last_line z)) h.ending))

-- the same of a text that ends after a tag
pub next-for : (w z r u y : List ℕ) (c : ℕ) → u ≡ y ++ c ∷ [] → is_padding c ≡ false → (first first' : ℕ) (o o' : Option (ℕ × ℕ)) → Alike w z r first (length u) first' (length (open_under w u)) o o'
    → Next w r u (is_some o) (lines_or first (length u) o).1 (lines_or first' (length (open_under w u)) o').1
next-for w z r u y c is solid first first' o o' =
    subst (λ u. Alike w z r first (length u) first' (length (open_under w u)) o o' → Next w r u (is_some o) (lines_or first (length u) o).1 (lines_or first' (length (open_under w u)) o').1) (sym is) (next w z r y c solid first first' o o')
