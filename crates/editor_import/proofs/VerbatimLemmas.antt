-- What the template of a page is read as, and what it renders to.
use Rattle.std.proofs.Common.{◌≡◌, ℕ, zero, suc, ◌+◌, ◌-◌, ◌<◌, Bool, true, false, not, ◌&&◌, ◌||◌, ◌==◌, if◌then◌else◌, cond, List, [], ◌∷◌, ◌++◌, length, take, drop, max, nat_eq, Option, Some, None, Ok, refl, sym, ap, ◌∙◌, arith, append_assoc, append-nil, length-append, slice_range, is_some}
use Rattle.std.proofs.Math.Seq.{take-append_seam, drop-append_seam, drop-append-add}
use Rattle.std.proofs.lemmas.Bool.{false≢true}
use Rattle.std.proofs.lemmas.Bool.Decides.{nat_tests}
use Rattle.std.proofs.lemmas.List.{reverse-append, take_all}
use Rattle.std.proofs.lemmas.List.Folds.{list_any-append}
use Rattle.std.proofs.lemmas.List.Sums.{sum_by-append}
use Rattle.std.specs.List.{repeat, list_any, prefix_len, suffix_len, position_or_len, before_first, starts_with, take_while, count_by}
use Rattle.std.specs.Cmp.Lexicographic.{pointwise}
use Rattle.context.specs.Whole.{Whole}
use Rattle.mustache_scan.specs.Cutting.{is_padding, is_blank, unpadded, stripped, cut, behind}
use Rattle.mustache_scan.specs.Names.{Pair, braces, is_empty, is_sequence, delimiters_in}
use Rattle.mustache_scan.specs.Progress.{taken, lines_or, literal_at, tag_at, or_wrong, checked}
use Rattle.mustache_scan.specs.Reading.{Opened, opened_as, tag_after, wrong_inside, changed}
use Rattle.mustache_scan.specs.Standalone.{TokenSeen, line_end, lines_from, standalone_lines}
use Rattle.mustache_scan.specs.declared.fault.FaultKind.TheVariants.{BadDelimiters}
use Rattle.mustache_scan.specs.declared.token.TokenKind.TheVariants.{Delimiters}
use Rattle.mustache_scan.proofs.CutLemmas.{cut_here, cut_past}
use Rattle.mustache_scan.proofs.FirstCutLemmas.{no_cut_is_nowhere}
use Rattle.mustache_scan.proofs.OutcomeLemmas.{begins, continues, ends_well}
use Rattle.mustache_scan.proofs.ProgressLemmas.{IsReadTo, carried}
use Rattle.mustache_parse.specs.Margin.{text_onto}
use Rattle.mustache_parse.specs.Tree.{nothing, text, nested, tree_of}
use Rattle.mustache_parse.proofs.TextLemmas.{tree_is}
use Rattle.render.specs.Meaning.{Meaning, Costs, Partials, prints, meaning_to, meaning_with, within_limit}
use Rattle.render.proofs.Rendered.{rendering-is}
use Rattle.editor_import.specs.Verbatim.{is_caret, verbatim, Shows}

-- the end of a tag that sets delimiters: =}}
abbrev tag_end : List ℕ
tag_end = 61 ∷ 125 ∷ 125 ∷ []

abbrev row : ℕ → List ℕ
row n = repeat n (94 ∷ [])

-- ---- carets in a row

row_length : (n : ℕ) → length (row n) ≡ n
row_length zero = refl
row_length (suc n) = ap suc (row_length n)

row_any : (p : ℕ → Bool) (n : ℕ) → p 94 ≡ false → list_any p (row n) ≡ false
row_any p zero h = refl
row_any p (suc n) h = ap (λ b. b || list_any p (row n)) h ∙ row_any p n h

row_last : (n : ℕ) → row (suc n) ≡ row n ++ 94 ∷ []
row_last zero = refl
row_last (suc n) = ap (λ l. 94 ∷ l) (row_last n)

count-append : (xs ys : List ℕ) → count_by is_caret (xs ++ ys) ≡ count_by is_caret xs + count_by is_caret ys
count-append xs ys = sum_by-append (λ x. cond (is_caret x) 1 0) xs ys

row_count : (n : ℕ) → count_by is_caret (row n) ≡ n
row_count zero = refl
row_count (suc n) =
    let one : count_by is_caret (94 ∷ []) ≡ 1 = refl in
    count-append (94 ∷ []) (row n) ∙ omega (arith, one, row_count n)

not_zero : (n : ℕ) → (suc n == 0) ≡ false
not_zero n = grind (arith, nat_tests)

-- more carets in a row than a text has stand nowhere in it
none_there : (n : ℕ) (t : List ℕ) → count_by is_caret t < n → cut (row n) t ≡ None
none_there n t more =
    (no_cut_is_nowhere (row n) t (omega (arith, row_length n))).1
    (λ c e is. omega (arith, ap (count_by is_caret) is, count-append c (row n ++ e), count-append (row n) e, row_count n))

-- ---- the tag

neither : (c d : Bool) → (c || d) ≡ false → (c ≡ false) × (d ≡ false)
neither false d h = (refl, h)
neither true d h = absurd (false≢true (sym h))

not_here : (x : ℕ) (xs : List ℕ) → nat_eq 61 x ≡ false → starts_with nat_eq (x ∷ xs) tag_end ≡ false
not_here x xs h = ap (λ b. b && pointwise nat_eq (125 ∷ 125 ∷ []) (take 2 xs)) h

-- a tag ends at the first equals sign
cut_clear : (a b : List ℕ) → list_any (nat_eq 61) a ≡ false → cut tag_end (a ++ (tag_end ++ b)) ≡ Some (a, b)
cut_clear [] b h = cut_here tag_end 61 (125 ∷ 125 ∷ b) refl
cut_clear (x ∷ a) b h =
    let clear = neither (nat_eq 61 x) (list_any (nat_eq 61) a) h in
    cut_past tag_end x (a ++ (tag_end ++ b)) (not_here x (a ++ (tag_end ++ b)) clear.0) ∙ ap (behind x) (cut_clear a b clear.1)

inside_clear : (n : ℕ) → list_any (nat_eq 61) (row n ++ (32 ∷ row n)) ≡ false
inside_clear n = list_any-append (nat_eq 61) (row n) (32 ∷ row n) ∙ ap (λ b. b || b) (row_any (nat_eq 61) n refl)

unpadded_last : (xs : List ℕ) (n : ℕ) → suffix_len is_padding (xs ++ row (suc n)) ≡ 0
unpadded_last xs n =
    ap (suffix_len is_padding) (ap (λ l. xs ++ l) (row_last n) ∙ sym (append_assoc xs (row n) (94 ∷ [])))
    ∙ ap (prefix_len is_padding) (reverse-append (xs ++ row n) (94 ∷ []))

first_len : (n : ℕ) (ys : List ℕ) → position_or_len is_padding (row n ++ (32 ∷ ys)) ≡ length (row n)
first_len zero ys = refl
first_len (suc n) ys = let step : 1 + length (row n) ≡ suc (length (row n)) = omega arith in ap (λ k. 1 + k) (first_len n ys) ∙ step

line_end_is : (page : List ℕ) → line_end (10 ∷ page) ≡ Some 1
line_end_is [] = refl
line_end_is (b ∷ bs) = refl

chosen : List ℕ → List ℕ → Option Pair
chosen first second = if is_sequence first && is_sequence second then Some (record { opening = first; closing = second }) else None

nested_is : (inside at_text indent page : List ℕ) (place at : ℕ)
    → nested (record { kind = Delimiters; inside = inside; place = place; text = at_text; indent = indent } ∷ literal_at at page) ≡ Ok (text_onto page nothing)
nested_is inside at_text indent [] place at = refl
nested_is inside at_text indent (b ∷ bs) place at = refl

-- ---- the whole template

module _ (n : ℕ) (page : List ℕ) (more : count_by is_caret page < suc n) where
  abbrev marks : List ℕ
  marks = row (suc n)

  abbrev inside : List ℕ
  inside = marks ++ (32 ∷ marks)

  abbrev rest : List ℕ
  rest = 10 ∷ page

  abbrev after : List ℕ
  after = 61 ∷ (inside ++ (tag_end ++ rest))

  abbrev whole : List ℕ
  whole = 123 ∷ 123 ∷ after

  abbrev front : List ℕ
  front = 123 ∷ 123 ∷ 61 ∷ (inside ++ tag_end)

  abbrev past : ℕ
  past = length whole - length rest

  abbrev opened : Opened
  opened = record { kind = Delimiters; inside = inside; rest = rest }

  abbrev pair : Pair
  pair = record { opening = marks; closing = marks }

  opened_is : tag_after braces.closing after ≡ Some opened
  opened_is = ap (opened_as Delimiters) (cut_clear inside rest (inside_clear (suc n)))

  unpadded_is : suffix_len is_padding inside ≡ 0
  unpadded_is = ap (suffix_len is_padding) (sym (append_assoc marks (32 ∷ []) marks)) ∙ unpadded_last (marks ++ (32 ∷ [])) n

  stripped_is : stripped inside ≡ inside
  stripped_is = ap (λ k. take (length inside - k) inside) unpadded_is ∙ take_all (length inside - 0) inside (omega arith)

  sequence : is_sequence marks ≡ true
  sequence = ap (λ b. not (is_empty marks) && not b) (row_any (λ b. is_padding b || b == 61) (suc n) refl) ∙ ap (λ b. not b && true) (not_zero (length (row n)))

  first_is : before_first is_padding inside ≡ marks
  first_is = ap (λ k. take k inside) (first_len (suc n) marks) ∙ take-append_seam marks (32 ∷ marks)

  delimiters_are : delimiters_in inside ≡ Some pair
  unfolding chosen
  delimiters_are =
      ap (λ first. chosen first (unpadded (drop (length first) inside))) first_is
      ∙ ap (λ second. chosen marks (unpadded second)) (drop-append_seam marks (32 ∷ marks))
      ∙ ap (λ b. if b && b then Some pair else None) sequence

  checked_is : checked (tag_after braces.closing after) ≡ Ok opened
  checked_is =
      ap checked opened_is
      ∙ ap (λ i. or_wrong (record { kind = Delimiters; inside = i; rest = rest }) (wrong_inside Delimiters i)) stripped_is
      ∙ ap (λ d. or_wrong opened (if is_some d then None else Some BadDelimiters)) delimiters_are

  whole_is : whole ≡ front ++ rest
  whole_is = ap (λ l. 123 ∷ 123 ∷ 61 ∷ l) (sym (append_assoc inside tag_end rest))

  past_is : length front ≡ past
  past_is = omega (arith, ap length whole_is, length-append front rest)

  dropped : drop past whole ≡ rest
  dropped = ap (λ k. drop k whole) (sym past_is) ∙ ap (drop (length front)) whole_is ∙ drop-append_seam front rest

  dropped_line : drop (past + 1) whole ≡ page
  dropped_line = ap (λ k. drop (k + 1) whole) (sym past_is) ∙ ap (drop (length front + 1)) whole_is ∙ drop-append-add front rest 1

  lines_are : standalone_lines whole 0 past ≡ Some (0, past + 1)
  lines_are =
      let same : past + 0 ≡ past = omega arith in
      ap (λ d. lines_from 0 (past + length (take_while is_blank d)) (line_end (drop (past + length (take_while is_blank d)) whole))) dropped
      ∙ ap (λ k. lines_from 0 k (line_end (drop k whole))) same
      ∙ ap (λ d. lines_from 0 past (line_end d)) dropped
      ∙ ap (lines_from 0 past) (line_end_is page)

  taken_is : taken whole Delimiters 0 past ≡ (0, past + 1)
  taken_is = ap (lines_or 0 past) lines_are

  -- what is read of the template before its page
  abbrev tokens : ℕ → ℕ × ℕ → List TokenSeen
  tokens at lines = literal_at 0 (slice_range whole 0 lines.0) ++ tag_at whole Delimiters inside at past ∷ []

  read_to : IsReadTo whole rest pair (past + 1) (tag_at whole Delimiters inside 0 past ∷ [])
  read_to =
      let start : length whole - length whole + length {A = ℕ} [] ≡ 0 = omega arith in
      let lines : taken whole Delimiters (length whole - length whole + length {A = ℕ} []) past ≡ (0, past + 1) = ap (λ k. taken whole Delimiters k past) start ∙ taken_is in
      let to : max 0 (past + 1) ≡ past + 1 = omega arith in
      carried pair (past + 1) (tag_at whole Delimiters inside 0 past ∷ [])
      (continues whole whole braces 0 [] (begins whole) refl [] after (cut_here braces.opening 123 (123 ∷ after) refl) opened checked_is)
      (sym (ap (changed braces) delimiters_are))
      (sym (ap (λ (l : ℕ × ℕ). max 0 l.1) lines ∙ to))
      (sym (ap (λ k. tokens k (taken whole Delimiters k past)) start ∙ ap (tokens 0) taken_is))

  page_is : slice_range whole (past + 1) (length whole) ≡ page
  page_is =
      let long : length whole ≡ length front + length rest = ap length whole_is ∙ length-append front rest in
      ap (take (length whole - (past + 1))) dropped_line ∙ take_all (length whole - (past + 1)) page (omega (arith, past_is, long))

  pub tree_is_page : tree_of whole ≡ Ok (text_onto page nothing)
  tree_is_page =
      tree_is whole (tag_at whole Delimiters inside 0 past ∷ literal_at (past + 1) page) (Ok (text_onto page nothing))
      (ends_well whole rest pair (past + 1) (tag_at whole Delimiters inside 0 past ∷ []) read_to sequence (none_there (suc n) rest more)
      ∙ ap (λ l. Ok (tag_at whole Delimiters inside 0 past ∷ literal_at (past + 1) l)) page_is)
      (nested_is [] (slice_range whole 0 past) [] page 0 (past + 1))

-- ---- what it renders to

nothing_with : (call : (name indent : List ℕ) → List Whole → Meaning) (stack : List Whole) → meaning_with call nothing stack ≡ Costs [] 0
unfolding meaning_with
nothing_with call stack = refl

text_with : (call : (name indent : List ℕ) → List Whole → Meaning) (t : List ℕ) (stack : List Whole) → meaning_with call (text t nothing) stack ≡ prints t
unfolding meaning_with
text_with call t stack = let paid : length t + 0 ≡ length t = omega arith in ap (λ l. Costs l (length t + 0)) (append-nil t) ∙ ap (λ k. Costs t k) paid

page_with : (call : (name indent : List ℕ) → List Whole → Meaning) (page : List ℕ) (stack : List Whole) → meaning_with call (text_onto page nothing) stack ≡ prints page
page_with call [] stack = nothing_with call stack
page_with call (b ∷ bs) stack = text_with call (b ∷ bs) stack

page_to : (n : ℕ) (partials : Partials) (page : List ℕ) (stack : List Whole) → meaning_to n partials (text_onto page nothing) stack ≡ prints page
unfolding meaning_to
page_to zero partials page stack = page_with _ page stack
page_to (suc n) partials page stack = page_with _ page stack

-- the template of a page shows it
pub page_shown : (t page : List ℕ) → t ≡ verbatim page → Shows t page
page_shown t page is =
    let n : ℕ = count_by is_caret page in
    let next : n + 1 ≡ suc n = omega arith in
    let marks : List ℕ = row (suc n) in
    let joined : verbatim page ≡ whole n page (omega arith) =
    ap (λ (k : ℕ). 123 ∷ 123 ∷ 61 ∷ (row k ++ (32 ∷ (row k ++ (tag_end ++ (10 ∷ page)))))) next
    ∙ ap (λ l. 123 ∷ 123 ∷ 61 ∷ l) (sym (append_assoc (row (suc n)) (32 ∷ row (suc n)) (tag_end ++ (10 ∷ page)))) in
    record {
      tree = text_onto page nothing;
      reads = ap tree_of (is ∙ joined) ∙ tree_is_page n page (omega arith);
      shows = λ partials given. rendering-is partials (text_onto page nothing) given ∙ ap within_limit (page_to 32 partials page (given ∷ []));
    }
