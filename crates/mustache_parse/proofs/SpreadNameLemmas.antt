-- What a tag's inside says is the same with `w` after its newlines: it comes beside padding alone.
use Rattle.std.proofs.Common.{◌≡◌, ℕ, suc, ◌+◌, ◌<◌, Bool, true, false, not, ◌&&◌, ◌||◌, ◌==◌, if◌then◌else◌, cond, List, [], ◌∷◌, ◌++◌, length, take, drop, nat_eq, inl, inr, ◌⊎◌, is_some, Option, Some, None, refl, sym, ap, subst, ◌∙◌, arith, ⊎_elim}
use Rattle.std.proofs.lemmas.Bool.{cases_Bool, false≢true}
use Rattle.std.proofs.lemmas.Bool.Decides.{nat_tests}
use Rattle.std.specs.List.{list_any, before_first, position_or_len}
use Rattle.mustache_scan.specs.Cutting.{is_padding, is_blank, unpadded}
use Rattle.mustache_scan.specs.Laws.{Opens}
use Rattle.mustache_scan.specs.Names.{Pair, is_empty, has_padding, is_sequence, delimiters_in}
use Rattle.mustache_scan.specs.Reading.{wrong_name, wrong_inside, changed, delimiters_after, name_of}
use Rattle.mustache_scan.specs.Standalone.{is_literal}
use Rattle.mustache_scan.specs.declared.fault.FaultKind.TheVariants.{BadName, BadDelimiters}
use Rattle.mustache_scan.specs.declared.token.TokenKind.{TokenKind}
use Rattle.mustache_scan.specs.declared.token.TokenKind.TheVariants.{Literal, Comment, Partial, Delimiters}
use Rattle.mustache_parse.specs.Indenting.{after_each}
use Rattle.mustache_parse.proofs.IndentLemmas.{AllAre, NoneAre, after_each_newline, after_each_other}
use Rattle.mustache_parse.proofs.SpreadLemmas.{no_newline, unpadded-after_each}

-- delimiters that are something, and hold no padding
pub record Solid (d : Pair) : Type 0 where
  pub opens : Opens d
  pub closes : 0 < length d.closing
  pub opening : NoneAre is_padding d.opening
  pub closing : NoneAre is_padding d.closing

-- a text without padding stays, and one with padding still has some
record Padded (w s : List ℕ) : Type 0 where
  before : has_padding s ≡ true
  after : has_padding (after_each w s) ≡ true

padded-head : (w : List ℕ) (b : ℕ) (bs : List ℕ) → is_padding b ≡ true → has_padding (after_each w (b ∷ bs)) ≡ true
padded-head w b bs h = ⊎_elim
    (λ newline. ap has_padding (after_each_newline w b bs newline) ∙ ap (λ c. c || has_padding (w ++ after_each w bs)) h)
    (λ other. ap has_padding (after_each_other w b bs other) ∙ ap (λ c. c || has_padding (after_each w bs)) h)
    (cases_Bool (nat_eq b 10))

same-or-padded : (w s : List ℕ) → (after_each w s ≡ s) ⊎ Padded w s
same-or-padded w [] = inl refl
same-or-padded w (b ∷ bs) = ⊎_elim
    (λ is. inr (record { before = ap (λ c. c || has_padding bs) is; after = padded-head w b bs is }))
    (λ none. ⊎_elim
    (λ same. inl (after_each_other w b bs (no_newline b none) ∙ ap (λ l. b ∷ l) same))
    (λ (p : Padded w bs). inr (record {
      before = ap (λ c. c || has_padding bs) none ∙ p.before;
      after = ap has_padding (after_each_other w b bs (no_newline b none)) ∙ ap (λ c. c || has_padding (after_each w bs)) none ∙ p.after;
    }))
    (same-or-padded w bs))
    (cases_Bool (is_padding b))

some_bytes : (b : ℕ) (bs : List ℕ) → is_empty (b ∷ bs) ≡ false
some_bytes b bs = grind (arith, nat_tests)

wrong_padded : (dotted : Bool) (s : List ℕ) → has_padding s ≡ true → wrong_name dotted s ≡ Some BadName
wrong_padded dotted [] h = absurd (false≢true h)
wrong_padded dotted (b ∷ bs) h = rw (some_bytes b bs, h) refl

wrong_name-same : (w : List ℕ) (dotted : Bool) (s : List ℕ) → wrong_name dotted (after_each w s) ≡ wrong_name dotted s
wrong_name-same w dotted s = ⊎_elim
    (λ same. ap (wrong_name dotted) same)
    (λ (p : Padded w s). wrong_padded dotted (after_each w s) p.after ∙ sym (wrong_padded dotted s p.before))
    (same-or-padded w s)

-- a good name stays
good_name : (w : List ℕ) (dotted : Bool) (s : List ℕ) → wrong_name dotted s ≡ None → after_each w s ≡ s
good_name w dotted s good = ⊎_elim
    (λ same. same)
    (λ (p : Padded w s). let e = sym (wrong_padded dotted s p.before) ∙ good in absurd (cc))
    (same-or-padded w s)

-- the sequences of a delimiter tag
any_or : (p q : ℕ → Bool) (s : List ℕ) → list_any p s ≡ true → list_any (λ b. p b || q b) s ≡ true
any_or p q [] h = absurd (false≢true h)
any_or p q (b ∷ bs) h = ⊎_elim
    (λ is. ap (λ c. (c || q b) || list_any (λ b. p b || q b) bs) is)
    (λ none. let rest = any_or p q bs (sym (ap (λ c. c || list_any p bs) none) ∙ h) in ap (λ c. (p b || q b) || c) rest ∙ or_true (p b || q b))
    (cases_Bool (p b))
  where
    or_true : (c : Bool) → (c || true) ≡ true
    or_true true = refl
    or_true false = refl

and_false : (c : Bool) → (c && false) ≡ false
and_false true = refl
and_false false = refl

no_sequence : (s : List ℕ) → has_padding s ≡ true → is_sequence s ≡ false
no_sequence s h = ap (λ c. not (is_empty s) && not c) (any_or is_padding (λ b. b == 61) s h) ∙ and_false (not (is_empty s))

solid-none : (s : List ℕ) → list_any (λ b. is_padding b || b == 61) s ≡ false → NoneAre is_padding s
solid-none [] h = tt
solid-none (b ∷ bs) h =
    let here = or_false (is_padding b || b == 61) (list_any (λ b. is_padding b || b == 61) bs) h in
    ((or_false (is_padding b) (b == 61) here.0).0, solid-none bs here.1)
  where
    or_false : (c e : Bool) → (c || e) ≡ false → (c ≡ false) × (e ≡ false)
    or_false true e h = absurd (false≢true (sym h))
    or_false false e h = (refl, h)

solid-sequence : (s : List ℕ) → is_sequence s ≡ true → (0 < length s) × NoneAre is_padding s
solid-sequence [] h = absurd (false≢true h)
solid-sequence (b ∷ bs) h = (omega arith, solid-none (b ∷ bs) (none (is_empty (b ∷ bs)) (list_any (λ b. is_padding b || b == 61) (b ∷ bs)) h))
  where
    none : (c e : Bool) → (not c && not e) ≡ true → e ≡ false
    none c false h = refl
    none true true h = absurd (false≢true h)
    none false true h = absurd (false≢true h)

-- the inside of a delimiter tag up to its first padding, and from there
from_first : List ℕ → List ℕ
from_first s = drop (length (before_first is_padding s)) s

first-yes : (b : ℕ) (bs : List ℕ) → is_padding b ≡ true → before_first is_padding (b ∷ bs) ≡ []
first-yes b bs h = ap (λ c. take (cond (not c) (1 + position_or_len is_padding bs) 0) (b ∷ bs)) h

first-no : (b : ℕ) (bs : List ℕ) → is_padding b ≡ false → before_first is_padding (b ∷ bs) ≡ b ∷ before_first is_padding bs
first-no b bs h = ap (λ c. take (cond (not c) (1 + position_or_len is_padding bs) 0) (b ∷ bs)) h ∙ (let on : 1 + position_or_len is_padding bs ≡ suc (position_or_len is_padding bs) = omega arith in ap (λ n. take n (b ∷ bs)) on)

from-yes : (b : ℕ) (bs : List ℕ) → is_padding b ≡ true → from_first (b ∷ bs) ≡ b ∷ bs
unfolding from_first
from-yes b bs h = ap (λ l. drop (length l) (b ∷ bs)) (first-yes b bs h)

from-no : (b : ℕ) (bs : List ℕ) → is_padding b ≡ false → from_first (b ∷ bs) ≡ from_first bs
unfolding from_first
from-no b bs h = ap (λ l. drop (length l) (b ∷ bs)) (first-no b bs h)

first-same : (w s : List ℕ) → before_first is_padding (after_each w s) ≡ before_first is_padding s
first-same w [] = refl
first-same w (b ∷ bs) = ⊎_elim
    (λ is. ⊎_elim
    (λ newline. ap (before_first is_padding) (after_each_newline w b bs newline) ∙ first-yes b (w ++ after_each w bs) is)
    (λ other. ap (before_first is_padding) (after_each_other w b bs other) ∙ first-yes b (after_each w bs) is)
    (cases_Bool (nat_eq b 10))
    ∙ sym (first-yes b bs is))
    (λ none. ap (before_first is_padding) (after_each_other w b bs (no_newline b none)) ∙ first-no b (after_each w bs) none ∙ ap (λ l. b ∷ l) (first-same w bs) ∙ sym (first-no b bs none))
    (cases_Bool (is_padding b))

from-nil : from_first [] ≡ []
unfolding from_first
from-nil = refl

from-same : (w s : List ℕ) → from_first (after_each w s) ≡ after_each w (from_first s)
from-same w [] = from-nil ∙ ap (after_each w) (sym from-nil)
from-same w (b ∷ bs) = ⊎_elim
    (λ is. ⊎_elim
    (λ newline. ap from_first (after_each_newline w b bs newline) ∙ from-yes b (w ++ after_each w bs) is ∙ sym (after_each_newline w b bs newline))
    (λ other. ap from_first (after_each_other w b bs other) ∙ from-yes b (after_each w bs) is ∙ sym (after_each_other w b bs other))
    (cases_Bool (nat_eq b 10))
    ∙ ap (after_each w) (sym (from-yes b bs is)))
    (λ none. ap from_first (after_each_other w b bs (no_newline b none)) ∙ from-no b (after_each w bs) none ∙ from-same w bs ∙ ap (after_each w) (sym (from-no b bs none)))
    (cases_Bool (is_padding b))

-- the delimiters that two sequences name
named : List ℕ → List ℕ → Option Pair
named first second = if is_sequence first && is_sequence second then Some (record { opening = first; closing = second }) else None

named_in : (s : List ℕ) → delimiters_in s ≡ named (before_first is_padding s) (unpadded (from_first s))
unfolding named from_first
named_in s = refl

named_padded : (first second : List ℕ) → has_padding second ≡ true → named first second ≡ None
unfolding named
named_padded first second h = ap (λ c. if is_sequence first && c then Some (record { opening = first; closing = second }) else None) (no_sequence second h) ∙ ap (λ c. if c then Some (record { opening = first; closing = second }) else None) (and_false (is_sequence first))

module _ (w : List ℕ) (blank : AllAre is_blank w) where
  named-same : (first second : List ℕ) → named first (after_each w second) ≡ named first second
  named-same first second = ⊎_elim
      (λ same. ap (named first) same)
      (λ (p : Padded w second). named_padded first (after_each w second) p.after ∙ sym (named_padded first second p.before))
      (same-or-padded w second)

  pub delimiters_in-same : (s : List ℕ) → delimiters_in (after_each w s) ≡ delimiters_in s
  delimiters_in-same s =
      named_in (after_each w s) ∙ ap (λ first. named first (unpadded (from_first (after_each w s)))) (first-same w s)
      ∙ ap (λ l. named (before_first is_padding s) (unpadded l)) (from-same w s) ∙ ap (named (before_first is_padding s)) (unpadded-after_each w blank (from_first s))
      ∙ named-same (before_first is_padding s) (unpadded (from_first s)) ∙ sym (named_in s)

  pub wrong_inside-same : (kind : TokenKind) (s : List ℕ) → wrong_inside kind (after_each w s) ≡ wrong_inside kind s
  wrong_inside-same Literal s = refl
  wrong_inside-same Comment s = refl
  wrong_inside-same Delimiters s = ap (λ o. if is_some o then None else Some BadDelimiters) (delimiters_in-same s)
  wrong_inside-same Partial s = wrong_name-same w false s
  wrong_inside-same _ s = wrong_name-same w true s

  pub delimiters_after-same : (d : Pair) (kind : TokenKind) (s : List ℕ) → delimiters_after d kind (after_each w s) ≡ delimiters_after d kind s
  delimiters_after-same d Delimiters s = ap (changed d) (delimiters_in-same s)
  delimiters_after-same d _ s = refl

-- the name of a tag without fault stays
pub name_of-same : (w : List ℕ) (kind : TokenKind) (s : List ℕ) → is_literal kind ≡ false → wrong_inside kind s ≡ None → name_of kind (after_each w s) ≡ name_of kind s
name_of-same w Literal s tag good = absurd (false≢true (sym tag))
name_of-same w Comment s tag good = refl
name_of-same w Delimiters s tag good = refl
name_of-same w Partial s tag good = good_name w false s good
name_of-same w _ s tag good = good_name w true s good

solid-pair : (a b : Bool) (first second : List ℕ) (e : Pair) → is_sequence first ≡ a → is_sequence second ≡ b
    → (if a && b then Some (record { opening = first; closing = second }) else None) ≡ Some e → Solid e
solid-pair true true first second e one two h =
    let same : record { opening = first; closing = second } ≡ e = cc in
    let before = solid-sequence first one in
    let after = solid-sequence second two in
    subst Solid same (record { opens = before.0; closes = after.0; opening = before.1; closing = after.1 })
solid-pair true false first second e one two h = absurd (cc)
solid-pair false b first second e one two h = absurd (cc)

named-solid : (first second : List ℕ) (e : Pair) → named first second ≡ Some e → Solid e
unfolding named
named-solid first second e h = solid-pair (is_sequence first) (is_sequence second) first second e refl refl h

changed-solid : (d : Pair) (s : List ℕ) (r : Option Pair) → delimiters_in s ≡ r → Solid d → Solid (changed d r)
changed-solid d s None is h = h
changed-solid d s (Some e) is h = named-solid (before_first is_padding s) (unpadded (from_first s)) e (sym (named_in s) ∙ is)

-- a delimiter tag names nothing else
pub after-solid : (d : Pair) (kind : TokenKind) (s : List ℕ) → Solid d → Solid (delimiters_after d kind s)
after-solid d Delimiters s h = changed-solid d s (delimiters_in s) refl h
after-solid d _ s h = h

-- delimiters that may be named
pub record Sequences (d : Pair) : Type 0 where
  pub opening : is_sequence d.opening ≡ true
  pub closing : is_sequence d.closing ≡ true

pub sequences-solid : (d : Pair) → Sequences d → Solid d
sequences-solid d h =
    let before = solid-sequence d.opening h.opening in
    let after = solid-sequence d.closing h.closing in
    record { opens = before.0; closes = after.0; opening = before.1; closing = after.1 }

sequence-pair : (a b : Bool) (first second : List ℕ) (e : Pair) → is_sequence first ≡ a → is_sequence second ≡ b
    → (if a && b then Some (record { opening = first; closing = second }) else None) ≡ Some e → Sequences e
sequence-pair true true first second e one two h =
    let same : record { opening = first; closing = second } ≡ e = cc in
    subst Sequences same (record { opening = one; closing = two })
sequence-pair true false first second e one two h = absurd (cc)
sequence-pair false b first second e one two h = absurd (cc)

named-sequences : (first second : List ℕ) (e : Pair) → named first second ≡ Some e → Sequences e
unfolding named
named-sequences first second e h = sequence-pair (is_sequence first) (is_sequence second) first second e refl refl h

changed-sequences : (d : Pair) (s : List ℕ) (r : Option Pair) → delimiters_in s ≡ r → Sequences d → Sequences (changed d r)
changed-sequences d s None is h = h
changed-sequences d s (Some e) is h = named-sequences (before_first is_padding s) (unpadded (from_first s)) e (sym (named_in s) ∙ is)

pub after-sequences : (d : Pair) (kind : TokenKind) (s : List ℕ) → Sequences d → Sequences (delimiters_after d kind s)
after-sequences d Delimiters s h = changed-sequences d s (delimiters_in s) refl h
after-sequences d _ s h = h
