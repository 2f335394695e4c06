-- What an inbox holds, in its buffer.
use Rattle.std.proofs.Common.{◌≡◌, ℕ, ◌+◌, ◌-◌, ◌≤◌, List, [], ◌∷◌, ◌++◌, zero, suc, length, take, drop, slice_range, ap, sym, ◌∙◌, arith, append_assoc, append-nil, take_all, Option, Some, None}
use Rattle.std.specs.Io.KnownBytes.{Keeps, Consumes}
use Rattle.std.proofs.lemmas.List.{drop-drop, take-take}
use Rattle.std.proofs.lemmas.Slice.{between_is}
use Rattle.http_read.specs.Input.{input_of}

-- a part loses its front
pub drop-slice_range : (xs : List ℕ) (s e n : ℕ) → s + n ≤ e → drop n (slice_range xs s e) ≡ slice_range xs (s + n) e
drop-slice_range xs s e n h =
    ap (drop n) (between_is xs s e) ∙ drop-drop n s (take e xs) ∙ sym (between_is xs (s + n) e)

-- a part that ends within the front of a list
pub slice_range_front : (xs ys : List ℕ) (s e n : ℕ) → take n ys ≡ xs → e ≤ n → slice_range xs s e ≡ slice_range ys s e
slice_range_front xs ys s e n front h =
    between_is xs s e ∙ ap (λ l. drop s (take e l)) (sym front) ∙ ap (drop s) (take-take e n ys h) ∙ sym (between_is ys s e)

-- `take` past the first list
pub take-append_past : (xs ys : List ℕ) (n m : ℕ) → m ≡ length xs + n → take m (xs ++ ys) ≡ xs ++ take n ys
take-append_past [] ys n m e = let same : m ≡ n = omega arith in rw same
take-append_past (x ∷ xs) ys n zero e = absurd (omega arith)
take-append_past (x ∷ xs) ys n (suc m) e = ap (λ l. x ∷ l) (take-append_past xs ys n m (omega arith))

-- what a reading adds to what is held, the reader has no longer
pub reading_keeps : (held now got : List ℕ) (old new : Option (List ℕ)) → now ≡ held ++ got → Consumes old new got
    → Keeps (input_of held old) (input_of now new)
reading_keeps held now got None new same given = tt
reading_keeps held now got (Some xs) None same given = absurd given
reading_keeps held now got (Some xs) (Some ys) same given =
    ap (λ t. t ++ ys) same ∙ append_assoc held got ys ∙ ap (λ t. held ++ t) (sym given)

-- a reading that adds nothing
pub nothing_keeps : (held now : List ℕ) (old new : Option (List ℕ)) → now ≡ held → Keeps old new
    → Keeps (input_of held old) (input_of now new)
nothing_keeps held now None new same kept = tt
nothing_keeps held now (Some xs) None same kept = absurd kept
nothing_keeps held now (Some xs) (Some ys) same kept = ap (λ t. t ++ ys) same ∙ ap (λ t. held ++ t) kept

-- what was held in a buffer that grew, and then moved to the front, stands there
pub held_in_front : (old made down all held : List ℕ) (s e n : ℕ) → take n made ≡ old → e ≤ n → take (e - s) down ≡ slice_range made s e
    → all ≡ down → slice_range old s e ≡ held → take (e - s) all ≡ held
held_in_front old made down all held s e n grew within moved same is =
    ap (take (e - s)) same ∙ moved ∙ sym (slice_range_front old made s e n grew within) ∙ is

-- a list that was filled up begins as it was
pub filled_front : (old more new : List ℕ) (n m : ℕ) → new ≡ take n old ++ more → m ≡ length old → m ≤ n → take m new ≡ old
filled_front old more new n m grown long short =
    ap (take m) (grown ∙ ap (λ l. l ++ more) (take_all n old (omega arith))) ∙ take-append_past old more 0 m (omega arith) ∙ append-nil old
