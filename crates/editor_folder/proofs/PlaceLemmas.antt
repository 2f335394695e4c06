-- The place behind a part of a text, by that before it.
use Rattle.std.proofs.Common.{◌≡◌, ◌≢◌, ℕ, suc, ◌+◌, ◌-◌, ◌≤◌, ◌==◌, List, [], ◌∷◌, ◌++◌, length, min, take, take-add, drop, reverse, count_by, Bool, true, false, not, cond, refl, sym, ap, ◌∙◌, arith}
use Rattle.std.specs.List.{take_while, prefix_len}
use Rattle.std.proofs.lemmas.List.{reverse-append}
use Rattle.std.proofs.lemmas.Grind.{common_steps}
use Rattle.std.proofs.lemmas.List.Sums.{sum_by-append}
use Rattle.editor_folder.specs.Places.{is_lead, line_of, column_of}

pub count_more : (p : ℕ → Bool) (xs ys : List ℕ) → count_by p (xs ++ ys) ≡ count_by p xs + count_by p ys
count_more p xs ys = sum_by-append (λ x. cond (p x) 1 0) xs ys

count_one : (p : ℕ → Bool) (x : ℕ) (xs : List ℕ) → count_by p (x ∷ xs) ≡ cond (p x) 1 0 + count_by p xs
count_one p x xs = let first : count_by p (x ∷ []) ≡ cond (p x) 1 0 = omega arith in count_more p (x ∷ []) xs ∙ ap (λ n. n + count_by p xs) first

count_back : (p : ℕ → Bool) (xs : List ℕ) → count_by p (reverse xs) ≡ count_by p xs
count_back p [] = refl
count_back p (x ∷ xs) =
    let first : count_by p (x ∷ []) ≡ cond (p x) 1 0 = omega arith in
    let later : count_by p (reverse xs) ≡ count_by p xs = count_back p xs in
    let whole : count_by p (reverse (x ∷ xs)) ≡ count_by p (reverse xs) + count_by p (x ∷ []) = ap (count_by p) (reverse-append (x ∷ []) xs) ∙ count_more p (reverse xs) (x ∷ []) in
    let one = count_one p x xs in
    omega (arith, first, later, whole, one)

-- ---- the end of a line

abbrev ends_line : ℕ → Bool
ends_line b = b == 10

abbrev stays : ℕ → Bool
stays b = not (b == 10)

take_one : (n x : ℕ) (xs : List ℕ) → take (1 + n) (x ∷ xs) ≡ x ∷ take n xs
take_one n x xs = let next : 1 + n ≡ suc n = omega arith in ap (λ (k : ℕ). take k (x ∷ xs)) next

on : (x : ℕ) (xs : List ℕ) (t : Bool) → ends_line x ≡ t → take_while stays (x ∷ xs) ≡ cond t [] (x ∷ take_while stays xs)
on x xs true is = rw is
on x xs false is = rw is (take_one (prefix_len stays xs) x xs)

all_pass : (zs ws : List ℕ) → count_by ends_line zs ≡ 0 → take_while stays (zs ++ ws) ≡ zs ++ take_while stays ws
all_pass [] ws none = refl
all_pass (z ∷ zs) ws none = by (ends_line z) refl (all_pass zs ws)
  where
    by : (t : Bool) → ends_line z ≡ t → (count_by ends_line zs ≡ 0 → take_while stays (zs ++ ws) ≡ zs ++ take_while stays ws) → take_while stays (z ∷ (zs ++ ws)) ≡ z ∷ (zs ++ take_while stays ws)
    by true is later =
        let counted : count_by ends_line (z ∷ zs) ≡ 1 + count_by ends_line zs = count_one ends_line z zs ∙ ap (λ b. cond b 1 0 + count_by ends_line zs) is in
        absurd (omega (arith, counted, none))
    by false is later =
        let counted : count_by ends_line (z ∷ zs) ≡ 0 + count_by ends_line zs = count_one ends_line z zs ∙ ap (λ b. cond b 1 0 + count_by ends_line zs) is in
        let rest : count_by ends_line zs ≡ 0 = omega (arith, counted, none) in
        on z (zs ++ ws) false is ∙ ap (λ ys. z ∷ ys) (later rest)

stops : (zs ws : List ℕ) → count_by ends_line zs ≢ 0 → take_while stays (zs ++ ws) ≡ take_while stays zs
stops [] ws some = absurd (some refl)
stops (z ∷ zs) ws some = by (ends_line z) refl (stops zs ws)
  where
    by : (t : Bool) → ends_line z ≡ t → (count_by ends_line zs ≢ 0 → take_while stays (zs ++ ws) ≡ take_while stays zs) → take_while stays (z ∷ (zs ++ ws)) ≡ take_while stays (z ∷ zs)
    by true is later = on z (zs ++ ws) true is ∙ sym (on z zs true is)
    by false is later =
        let counted : count_by ends_line (z ∷ zs) ≡ 0 + count_by ends_line zs = count_one ends_line z zs ∙ ap (λ b. cond b 1 0 + count_by ends_line zs) is in
        let rest : count_by ends_line zs ≢ 0 = λ none. let whole : count_by ends_line (z ∷ zs) ≡ 0 = omega (arith, counted, none) in some whole in
        on z (zs ++ ws) false is ∙ ap (λ ys. z ∷ ys) (later rest) ∙ sym (on z zs false is)

-- ---- a text and a part more

same_line : (xs ys : List ℕ) → count_by ends_line ys ≡ 0
    → suc (count_by is_lead (take_while stays (reverse (xs ++ ys)))) ≡ suc (count_by is_lead (take_while stays (reverse xs))) + count_by is_lead ys
same_line xs ys none =
    let back : count_by ends_line (reverse ys) ≡ 0 = count_back ends_line ys ∙ none in
    let whole : count_by is_lead (take_while stays (reverse (xs ++ ys))) ≡ count_by is_lead (reverse ys) + count_by is_lead (take_while stays (reverse xs)) =
    ap (λ zs. count_by is_lead (take_while stays zs)) (reverse-append xs ys)
    ∙ ap (count_by is_lead) (all_pass (reverse ys) (reverse xs) back)
    ∙ count_more is_lead (reverse ys) (take_while stays (reverse xs)) in
    let turned = count_back is_lead ys in
    omega (arith, whole, turned)

new_line : (xs ys : List ℕ) → count_by ends_line ys ≢ 0
    → suc (count_by is_lead (take_while stays (reverse (xs ++ ys)))) ≡ suc (count_by is_lead (take_while stays (reverse ys)))
new_line xs ys some =
    let back : count_by ends_line (reverse ys) ≢ 0 = λ none. some (sym (count_back ends_line ys) ∙ none) in
    ap (λ zs. suc (count_by is_lead (take_while stays zs))) (reverse-append xs ys)
    ∙ ap (λ zs. suc (count_by is_lead zs)) (stops (reverse ys) (reverse xs) back)

parted : (text : List ℕ) (from to : ℕ) → from ≤ to → take to text ≡ take from text ++ take (to - from) (drop from text)
parted text from to before =
    let sum : to ≡ from + (to - from) = omega (arith, before) in
    ap (λ n. take n text) sum ∙ take-add from (to - from) text

pub line_past : (text : List ℕ) (from to : ℕ) → from ≤ to → line_of text from + count_by ends_line (take (to - from) (drop from text)) ≡ line_of text to
line_past text from to before =
    let whole = ap (count_by ends_line) (parted text from to before) ∙ count_more ends_line (take from text) (take (to - from) (drop from text)) in
    omega (arith, whole)

pub column_past : (text : List ℕ) (from to : ℕ) → from ≤ to
    → cond (count_by ends_line (take (to - from) (drop from text)) == 0)
    (column_of text from + count_by is_lead (take (to - from) (drop from text)))
    (suc (count_by is_lead (take_while stays (reverse (take (to - from) (drop from text))))))
    ≡ column_of text to
column_past text from to before = by (count_by ends_line part == 0) refl
  where
    part : List ℕ
    part = take (to - from) (drop from text)

    whole : suc (count_by is_lead (take_while stays (reverse (take from text ++ part)))) ≡ column_of text to
    whole = ap (λ zs. suc (count_by is_lead (take_while stays (reverse zs)))) (sym (parted text from to before))

    by : (t : Bool) → (count_by ends_line part == 0) ≡ t
        → cond t (column_of text from + count_by is_lead part) (suc (count_by is_lead (take_while stays (reverse part)))) ≡ column_of text to
    by true is = let none : count_by ends_line part ≡ 0 = grind arith in sym (same_line (take from text) part none) ∙ whole
    by false is = let some : count_by ends_line part ≢ 0 = grind arith in sym (new_line (take from text) part some) ∙ whole

-- past its end a text has no more
pub up_to_end : (text : List ℕ) (at : ℕ) → take (min at (length text)) text ≡ take at text
up_to_end text at = grind (arith, common_steps)
