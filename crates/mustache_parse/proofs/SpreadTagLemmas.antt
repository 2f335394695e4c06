-- A tag in a text, and the same tag once `w` follows the newlines of the text.
use Rattle.std.proofs.Common.{◌≡◌, ℕ, ◌-◌, ◌<◌, Bool, true, false, ◌==◌, if◌then◌else◌, List, [], ◌∷◌, ◌++◌, length, take, nat_eq, Option, Some, None, refl, sym, ap, subst, ◌∙◌, arith, append_assoc, append-nil, ⊎_elim, length-append, take-append-drop}
use Rattle.std.proofs.lemmas.Bool.{cases_Bool}
use Rattle.std.proofs.lemmas.Bool.Decides.{nat_tests}
use Rattle.std.proofs.lemmas.List.{take_at}
use Rattle.std.specs.List.{prefix_len}
use Rattle.mustache_scan.specs.Cutting.{cut, is_padding, is_blank, unpadded, stripped}
use Rattle.mustache_scan.specs.Reading.{Opened, opened_as, signed, tag_in, tag_after, kind_of_sign, partner, wrong_inside, name_of, tag}
use Rattle.mustache_scan.specs.Standalone.{is_literal}
use Rattle.mustache_scan.specs.declared.token.TokenKind.{TokenKind}
use Rattle.mustache_scan.specs.declared.token.TokenKind.TheVariants.{Variable}
use Rattle.mustache_scan.proofs.ReadingLemmas.{cut_parts}
use Rattle.mustache_scan.proofs.TakenLemmas.{sign_no_literal}
use Rattle.mustache_parse.specs.Indenting.{spread, after_each, spread_inner}
use Rattle.mustache_parse.proofs.IndentLemmas.{AllAre, NoneAre, moved, cut-spread, spread_newline}
use Rattle.mustache_parse.proofs.SpreadLemmas.{spread-plain, spread-part, after_each-part, after_each-append, spread-before, unpadded-spread}
use Rattle.mustache_parse.proofs.SpreadNameLemmas.{name_of-same}

-- a tag once `w` follows the newlines
abbrev pub spread_tag : List ℕ → Opened → Opened
spread_tag w o = record { kind = o.kind; inside = after_each w o.inside; rest = spread w o.rest }

abbrev pub spread_opened : List ℕ → Option Opened → Option Opened
spread_opened w None = None
spread_opened w (Some o) = Some (spread_tag w o)

none-append : (p : ℕ → Bool) (xs ys : List ℕ) → NoneAre p xs → NoneAre p ys → NoneAre p (xs ++ ys)
none-append p [] ys h k = k
none-append p (x ∷ xs) ys h k = (h.0, none-append p xs ys h.1 k)

partner-solid : (b : ℕ) → NoneAre is_padding (partner b)
partner-solid b = chosen (b == 123) (b == 61)
  where
    chosen : (c e : Bool) → NoneAre is_padding (if c then 125 ∷ [] else if e then 61 ∷ [] else [])
    chosen true e = (refl, tt)
    chosen false true = (refl, tt)
    chosen false false = tt

-- a newline is no sign
sign_plain : (b : ℕ) (kind : TokenKind) → kind_of_sign b ≡ Some kind → nat_eq b 10 ≡ false
sign_plain b kind h = ⊎_elim
    (λ newline. let is : b ≡ 10 = grind (arith, nat_tests) in let e : None ≡ Some kind = subst (λ b. kind_of_sign b ≡ Some kind) is h in absurd (cc))
    (λ other. other)
    (cases_Bool (nat_eq b 10))

-- a text keeps its first byte
pub spread-head : (w : List ℕ) (b : ℕ) (bs : List ℕ) → (x : List ℕ) × (spread w (b ∷ bs) ≡ b ∷ x)
spread-head w b [] = ([], refl)
spread-head w b (c ∷ cs) = ⊎_elim (λ newline. (w ++ spread w (c ∷ cs), spread_newline w b c cs newline)) (λ other. (spread w (c ∷ cs), spread-plain w b (c ∷ cs) other)) (cases_Bool (nat_eq b 10))

opened-moved : (w : List ℕ) (kind : TokenKind) (r : Option (List ℕ × List ℕ)) → opened_as kind (moved w r) ≡ spread_opened w (opened_as kind r)
opened-moved w kind None = refl
opened-moved w kind (Some (inside, rest)) = refl

module _ (w : List ℕ) (blank : AllAre is_blank w) where
  pub cut-solid : (part t : List ℕ) → 0 < length part → NoneAre is_padding part → cut part (spread w t) ≡ moved w (cut part t)
  cut-solid [] t some solid = absurd (omega arith)
  cut-solid (p ∷ ps) t some solid = cut-spread p ps w t solid blank

  module _ (closing : List ℕ) (some : 0 < length closing) (solid : NoneAre is_padding closing) where
    signed-spread : (b : ℕ) (bs : List ℕ) (k : Option TokenKind) → kind_of_sign b ≡ k → tag_in closing (spread w (b ∷ bs)) ≡ spread_opened w (signed closing b bs k)
    signed-spread b bs (Some kind) is =
        let more : 0 < length (partner b ++ closing) = omega (arith, length-append (partner b) closing) in
        ap (tag_in closing) (spread-plain w b bs (sign_plain b kind is)) ∙ ap (signed closing b (spread w bs)) is
        ∙ ap (opened_as kind) (cut-solid (partner b ++ closing) bs more (none-append is_padding (partner b) closing (partner-solid b) solid))
        ∙ opened-moved w kind (cut (partner b ++ closing) bs)
    signed-spread b bs None is =
        let head = spread-head w b bs in
        ap (tag_in closing) head.1 ∙ ap (signed closing b head.0) is ∙ ap (λ l. opened_as Variable (cut closing l)) (sym head.1)
        ∙ ap (opened_as Variable) (cut-solid closing (b ∷ bs) some solid) ∙ opened-moved w Variable (cut closing (b ∷ bs))

    tag_in-spread : (t : List ℕ) → tag_in closing (spread w t) ≡ spread_opened w (tag_in closing t)
    tag_in-spread [] = refl
    tag_in-spread (b ∷ bs) = signed-spread b bs (kind_of_sign b) refl

    pub tag_after-spread : (t : List ℕ) → tag_after closing (spread w t) ≡ spread_opened w (tag_after closing t)
    tag_after-spread t = ap (tag_in closing) (unpadded-spread w blank t) ∙ tag_in-spread (unpadded t)

-- A tag's kind, and its end: what follows the tag comes after its closing delimiter.
record Whole (closing t : List ℕ) (o : Opened) : Type 0 where
  is_tag : is_literal o.kind ≡ false
  first : List ℕ
  parts : t ≡ first ++ (closing ++ o.rest)

whole-cut : (kind : TokenKind) (before closing t : List ℕ) (o : Opened) (r : Option (List ℕ × List ℕ)) → is_literal kind ≡ false → cut (before ++ closing) t ≡ r → opened_as kind r ≡ Some o → Whole closing t o
whole-cut kind before closing t o None tag is h = absurd (cc)
whole-cut kind before closing t o (Some (inside, rest)) tag is h =
    let e : record { kind = kind; inside = inside; rest = rest } ≡ o = cc in
    subst (Whole closing t) e (record {
      is_tag = tag;
      first = inside ++ before;
      parts = cut_parts (before ++ closing) t (inside, rest) is ∙ ap (λ l. inside ++ l) (append_assoc before closing rest) ∙ sym (append_assoc inside before (closing ++ rest));
    })

whole-more : (front closing t : List ℕ) (o : Opened) → Whole closing t o → Whole closing (front ++ t) o
whole-more front closing t o h = record { is_tag = h.is_tag; first = front ++ h.first; parts = ap (λ l. front ++ l) h.parts ∙ sym (append_assoc front h.first (closing ++ o.rest)) }

whole-signed : (closing : List ℕ) (b : ℕ) (bs : List ℕ) (k : Option TokenKind) (o : Opened) → kind_of_sign b ≡ k → signed closing b bs k ≡ Some o → Whole closing (b ∷ bs) o
whole-signed closing b bs (Some kind) o is h = whole-more (b ∷ []) closing bs o (whole-cut kind (partner b) closing bs o _ (sign_no_literal kind b is) refl h)
whole-signed closing b bs None o is h = whole-cut Variable [] closing (b ∷ bs) o _ refl refl h

whole-tag_in : (closing t : List ℕ) (o : Opened) → tag_in closing t ≡ Some o → Whole closing t o
whole-tag_in closing [] o h = absurd (cc)
whole-tag_in closing (b ∷ bs) o h = whole-signed closing b bs (kind_of_sign b) o refl h

whole : (closing t : List ℕ) (o : Opened) → tag_after closing t ≡ Some o → Whole closing t o
whole closing t o h =
    let n = prefix_len is_padding t in
    subst (λ l. Whole closing l o) (take-append-drop n t) (whole-more (take n t) closing (unpadded t) o (whole-tag_in closing (unpadded t) o h))

pub tag_kind : (closing t : List ℕ) (o : Opened) → tag_after closing t ≡ Some o → is_literal o.kind ≡ false
tag_kind closing t o h = (whole closing t o h).is_tag

-- the text from a tag's inside on, to its closing delimiter and after it
pub tag_parts : (closing t : List ℕ) (o : Opened) → tag_after closing t ≡ Some o → (first : List ℕ) × (t ≡ first ++ (closing ++ o.rest))
tag_parts closing t o h = let k = whole closing t o h in (k.first, k.parts)

-- what is before the end of a text
front-of : (xs ys t : List ℕ) → t ≡ xs ++ ys → take (length t - length ys) t ≡ xs
front-of xs ys t is =
    let n : length xs ≡ length t - length ys = omega (arith, ap length is, length-append xs ys) in
    ap (take (length t - length ys)) is ∙ take_at xs ys (length t - length ys) n

module _ (w : List ℕ) where
  -- what a part without padding ends
  spread-ended : (xs part ys : List ℕ) → 0 < length part → NoneAre is_padding part → spread w (xs ++ (part ++ ys)) ≡ (after_each w xs ++ part) ++ spread w ys
  spread-ended xs [] ys some solid = absurd (omega arith)
  spread-ended xs (q ∷ qs) ys some solid = spread-before w xs q (qs ++ ys) ∙ ap (λ l. after_each w xs ++ l) (spread-part w (q ∷ qs) ys solid) ∙ sym (append_assoc (after_each w xs) (q ∷ qs) (spread w ys))

  after_each-ended : (xs part : List ℕ) → NoneAre is_padding part → after_each w (xs ++ part) ≡ after_each w xs ++ part
  after_each-ended xs part solid = after_each-append w xs part ∙ ap (λ l. after_each w xs ++ l) (after_each-part w part solid)

  module _ (opening closing after : List ℕ) (o : Opened) (opens : NoneAre is_padding opening) (some : 0 < length closing) (closes : NoneAre is_padding closing) (is : tag_after closing after ≡ Some o) where
    -- a tag's bytes, before and after
    bytes-were : take (length after - length o.rest) after ≡ (whole closing after o is).first ++ closing
    bytes-were =
        let h = whole closing after o is in
        front-of (h.first ++ closing) o.rest after (h.parts ∙ sym (append_assoc h.first closing o.rest))

    bytes-are : take (length (spread w after) - length (spread w o.rest)) (spread w after) ≡ after_each w (whole closing after o is).first ++ closing
    bytes-are =
        let h = whole closing after o is in
        front-of (after_each w h.first ++ closing) (spread w o.rest) (spread w after) (ap (spread w) h.parts ∙ spread-ended h.first closing o.rest some closes)

    bytes-each : opening ++ take (length (spread w after) - length (spread w o.rest)) (spread w after) ≡ after_each w (opening ++ take (length after - length o.rest) after)
    bytes-each =
        let h = whole closing after o is in
        ap (λ l. opening ++ l) (bytes-are ∙ sym (after_each-ended h.first closing closes))
        ∙ ap (λ l. l ++ after_each w (h.first ++ closing)) (sym (after_each-part w opening opens)) ∙ sym (after_each-append w opening (h.first ++ closing))
        ∙ ap (λ l. after_each w (opening ++ l)) (sym bytes-were)

    -- a tag doesn't end by a newline
    pub tag-end : spread w (opening ++ take (length after - length o.rest) after) ≡ after_each w (opening ++ take (length after - length o.rest) after)
    tag-end =
        let h = whole closing after o is in
        ap (λ l. spread w (opening ++ l)) bytes-were ∙ spread-part w opening (h.first ++ closing) opens
        ∙ ap (λ l. opening ++ l) (ap (λ l. spread w (h.first ++ l)) (sym (append-nil closing)) ∙ spread-ended h.first closing [] some closes ∙ append-nil (after_each w h.first ++ closing) ∙ sym bytes-are) ∙ bytes-each

    -- its piece
    pub tag-spread : stripped (after_each w o.inside) ≡ after_each w (stripped o.inside) → wrong_inside o.kind (stripped o.inside) ≡ None → tag opening (spread w after) (spread_tag w o) ≡ spread_inner w (tag opening after o)
    tag-spread strips good =
        let name : name_of o.kind (stripped (after_each w o.inside)) ≡ name_of o.kind (stripped o.inside) =
        ap (name_of o.kind) strips ∙ name_of-same w o.kind (stripped o.inside) (tag_kind closing after o is) good in
        ap (λ inside. record { kind = o.kind; inside = inside; bytes = opening ++ take (length (spread w after) - length (spread w o.rest)) (spread w after) } ∷ []) name
        ∙ ap (λ bytes. record { kind = o.kind; inside = name_of o.kind (stripped o.inside); bytes = bytes } ∷ []) bytes-each
