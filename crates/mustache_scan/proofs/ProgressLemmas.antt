-- How far a text has been read: the pieces so far, of which the last is a tag, and their tokens. No tag that follows takes anything of these.
use Rattle.std.proofs.Common.{◌≡◌, ℕ, ◌+◌, ◌-◌, ◌<◌, ◌≤◌, false, ◌&&◌, ◌||◌, List, [], ◌∷◌, ◌++◌, length, get_or, take, drop, max, nat_lt, nat_le, refl, sym, ap, subst, ◌∙◌, arith, ⊎_elim, append-nil, length-append, length-take, length-drop, slice_range}
use Rattle.std.proofs.Math.Seq.{drop-append-add}
use Rattle.std.proofs.lemmas.Bool.{cases_lt}
use Rattle.std.proofs.lemmas.Bool.Decides.{nat_tests}
use Rattle.std.proofs.lemmas.Grind.{flat_map-append}
use Rattle.std.proofs.lemmas.List.{take-append-le, drop-append-le}
use Rattle.std.proofs.lemmas.List.Folds.{list_any-append}
use Rattle.std.specs.List.{flat_map}
use Rattle.mustache_scan.specs.Cutting.{is_blank}
use Rattle.mustache_scan.specs.Names.{Pair, braces}
use Rattle.mustache_scan.specs.Progress.{literal_at}
use Rattle.mustache_scan.specs.Reading.{Piece, with_pieces, literal, reading, text_of}
use Rattle.mustache_scan.specs.Slices.{AreSlices}
use Rattle.mustache_scan.specs.Standalone.{TokenSeen, placed, standalone_lines_of, is_covered, kept, literal_of, tokens_at}
use Rattle.mustache_scan.proofs.KeptLemmas.{TakesEnds, literal_is}

-- lines that take no place up to a byte before `at` that is not blank
abbrev pub AreLater : List ℕ → ℕ → List (ℕ × ℕ) → Type 0
AreLater t at ls = (w k : ℕ) → w < at → is_blank (get_or t w 0) ≡ false → k ≤ w → is_covered ls k ≡ false

-- the place after the last token
abbrev pub end_of : ℕ → List TokenSeen → ℕ
end_of from [] = from
end_of from (x ∷ xs) = end_of (x.place + length x.text) xs

-- The text before `rest` is read: its pieces have the tokens `xs`, also where later tags take their lines, and after it bytes are kept from `from` on.
pub record IsReadTo (t rest : List ℕ) (d : Pair) (from : ℕ) (xs : List TokenSeen) : Type 0 where
  pub pieces : List Piece
  pub text : text_of pieces ++ rest ≡ t
  pub read : with_pieces pieces (reading d rest) ≡ reading braces t
  pub covers : (k : ℕ) → length (text_of pieces) ≤ k → is_covered (standalone_lines_of t (placed 0 pieces)) k ≡ nat_lt k from
  pub settled : (ls : List (ℕ × ℕ)) → AreLater t (length (text_of pieces)) ls → flat_map (tokens_at t (standalone_lines_of t (placed 0 pieces) ++ ls)) (placed 0 pieces) ≡ xs
  pub past : length (text_of pieces) ≤ from
  pub slices : AreSlices t 0 xs
  pub ended : end_of 0 xs ≤ length (text_of pieces)

pub carried : {t rest : List ℕ} {d : Pair} {from : ℕ} {xs : List TokenSeen} (e : Pair) (to : ℕ) (ys : List TokenSeen) → IsReadTo t rest d from xs → e ≡ d → to ≡ from → ys ≡ xs → IsReadTo t rest e to ys
carried {t = t} {rest = rest} {d = d} {from = from} {xs = xs} e to ys h same_pair same_place same_tokens =
    subst (IsReadTo t rest e to) (sym same_tokens) (subst (λ n. IsReadTo t rest e n xs) (sym same_place) (subst (λ p. IsReadTo t rest p from xs) (sym same_pair) h))

pub covered-append : (a b : List (ℕ × ℕ)) (k : ℕ) → is_covered (a ++ b) k ≡ (is_covered a k || is_covered b k)
covered-append a b k = list_any-append (λ (l : ℕ × ℕ). nat_le l.0 k && nat_lt k l.1) a b

pub later-append : (t : List ℕ) (at : ℕ) (a b : List (ℕ × ℕ)) → AreLater t at a → AreLater t at b → AreLater t at (a ++ b)
later-append t at a b p q w k before other le = covered-append a b k ∙ ap (λ c. c || is_covered b k) (p w k before other le) ∙ q w k before other le

pub placed-append : (at : ℕ) (ps qs : List Piece) → placed at (ps ++ qs) ≡ placed at ps ++ placed (at + length (text_of ps)) qs
placed-append at [] qs = let e : at ≡ at + 0 = omega arith in ap (λ n. placed n qs) e
placed-append at (p ∷ ps) qs =
    let e : at + length p.bytes + length (text_of ps) ≡ at + length (text_of (p ∷ ps)) = omega (arith, length-append p.bytes (text_of ps)) in
    ap (λ l. (at, p) ∷ l) (placed-append (at + length p.bytes) ps qs ∙ ap (λ n. placed (at + length p.bytes) ps ++ placed n qs) e)

pub placed_from : (ps qs : List Piece) → placed 0 (ps ++ qs) ≡ placed 0 ps ++ placed (length (text_of ps)) qs
placed_from ps qs = let e : 0 + length (text_of ps) ≡ length (text_of ps) = omega arith in placed-append 0 ps qs ∙ ap (λ n. placed 0 ps ++ placed n qs) e

pub text-append : (ps qs : List Piece) → text_of (ps ++ qs) ≡ text_of ps ++ text_of qs
text-append ps qs = flat_map-append (λ (p : Piece). p.bytes) ps qs

pub literal_text : (bs : List ℕ) → text_of (literal bs) ≡ bs
literal_text [] = refl
literal_text (b ∷ bs) = append-nil (b ∷ bs)

pub literal_lines : (t : List ℕ) (at : ℕ) (bs : List ℕ) → standalone_lines_of t (placed at (literal bs)) ≡ []
literal_lines t at [] = refl
literal_lines t at (b ∷ bs) = refl

literal_tokens : (t : List ℕ) (lines : List (ℕ × ℕ)) (at : ℕ) (bs : List ℕ) → flat_map (tokens_at t lines) (placed at (literal bs)) ≡ literal_of (kept lines at bs)
literal_tokens t lines at [] = refl
literal_tokens t lines at (b ∷ bs) = append-nil (literal_of (kept lines at (b ∷ bs)))

-- a part of a part of a text
slice_of_part : (front part back : List ℕ) (from to : ℕ) → length front ≤ from → to ≤ length front + length part
    → take (to - from) (drop (from - length front) part) ≡ slice_range (front ++ (part ++ back)) from to
slice_of_part front part back from to lo hi = ⊎_elim
    (λ some.
    let n : ℕ = from - length front in
    let at : length front + n ≡ from = omega arith in
    let le : n ≤ length part = omega arith in
    let fits : to - from ≤ length (drop n part) = omega (arith, length-drop n part) in
    let there : drop from (front ++ (part ++ back)) ≡ drop n part ++ back = ap (λ m. drop m (front ++ (part ++ back))) (sym at) ∙ drop-append-add front (part ++ back) n ∙ drop-append-le n part back le in
    sym (ap (take (to - from)) there ∙ take-append-le (to - from) (drop n part) back fits))
    (λ none.
    let e : to - from ≡ 0 = omega arith in
    ap (λ n. take n (drop (from - length front) part)) e ∙ ap (λ n. take n (drop from (front ++ (part ++ back)))) (sym e))
    (cases_lt from to)

-- the tokens of a literal between what earlier and later tags take
pub literal_between : (t : List ℕ) (lines : List (ℕ × ℕ)) (front part back : List ℕ) (from to : ℕ) → t ≡ front ++ (part ++ back) → length front ≤ from → to ≤ length front + length part
    → TakesEnds lines (length front) (length front + length part) from to → flat_map (tokens_at t lines) (placed (length front) (literal part)) ≡ literal_at from (slice_range t from to)
literal_between t lines front part back from to is lo hi takes =
    literal_tokens t lines (length front) part ∙ literal_is lines from to (length front) part lo takes
    ∙ ap (literal_at from) (slice_of_part front part back from to lo hi ∙ ap (λ l. slice_range l from to) (sym is))

-- a place is before the greater of two
pub before_max : (k a b : ℕ) → (nat_lt k a || nat_lt k b) ≡ nat_lt k (max a b)
before_max k a b = grind (arith, nat_tests)

-- slices one after another
pub slices-append : (t : List ℕ) (from upto : ℕ) (xs ys : List TokenSeen) → AreSlices t from xs → end_of from xs ≤ upto → ((f : ℕ) → f ≤ upto → AreSlices t f ys) → AreSlices t from (xs ++ ys)
slices-append t from upto [] ys h le more = more from le
slices-append t from upto (x ∷ xs) ys h le more = (h.0, h.1, slices-append t (x.place + length x.text) upto xs ys h.2 le more)

pub end-append : (from : ℕ) (xs ys : List TokenSeen) → end_of from (xs ++ ys) ≡ end_of (end_of from xs) ys
end-append from [] ys = refl
end-append from (x ∷ xs) ys = end-append (x.place + length x.text) xs ys

pub length-slice : (t : List ℕ) (from to : ℕ) → to ≤ length t → length (slice_range t from to) ≡ to - from
length-slice t from to le = omega (arith, length-take (to - from) (drop from t), length-drop from t)

-- a slice as a literal, and what comes after it
literal_slices : (t : List ℕ) (at past : ℕ) (bs : List ℕ) (ys : List TokenSeen) (f : ℕ) → bs ≡ slice_range t at (at + length bs) → f ≤ at → f ≤ past → (0 < length bs → at + length bs ≤ past)
    → ((g : ℕ) → g ≤ past → AreSlices t g ys) → AreSlices t f (literal_at at bs ++ ys)
literal_slices t at past [] ys f is le early fits more = more f early
literal_slices t at past (b ∷ bs) ys f is le early fits more = (le, is, more (at + length (b ∷ bs)) (fits (omega arith)))

pub literal_sliced : (t : List ℕ) (from to past : ℕ) (ys : List TokenSeen) (f : ℕ) → to ≤ length t → f ≤ from → f ≤ past → to ≤ past
    → ((g : ℕ) → g ≤ past → AreSlices t g ys) → AreSlices t f (literal_at from (slice_range t from to) ++ ys)
literal_sliced t from to past ys f within le early fits more =
    let l : length (slice_range t from to) ≡ to - from = length-slice t from to within in
    let n : to - from ≡ from + length (slice_range t from to) - from = omega arith in
    literal_slices t from past (slice_range t from to) ys f (ap (λ n. take n (drop from t)) n) le early (λ some. omega arith) more
