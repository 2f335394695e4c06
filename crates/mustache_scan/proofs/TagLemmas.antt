-- Tags in a text: what follows one ends what follows its opening delimiter, and what a reading that begins with one is.
use Rattle.std.proofs.Common.{◌≡◌, ℕ, ◌-◌, List, [], ◌∷◌, ◌++◌, length, take, Option, Some, None, refl, sym, ap, subst, ◌∙◌, arith, append_assoc, length-append, take-append-drop, lit<}
use Rattle.std.proofs.lemmas.List.{take_at}
use Rattle.std.specs.List.{prefix_len}
use Rattle.mustache_scan.specs.Cutting.{cut, unpadded, is_padding}
use Rattle.mustache_scan.specs.Laws.{Opens}
use Rattle.mustache_scan.specs.Names.{Pair, braces}
use Rattle.mustache_scan.specs.Reading.{Opened, opened_as, signed, tag_in, tag_after, kind_of_sign, partner, Piece, Pieces, with_pieces, after_opening, after_cut, reading}
use Rattle.mustache_scan.specs.declared.token.TokenKind.{TokenKind}
use Rattle.mustache_scan.specs.declared.token.TokenKind.TheVariants.{Variable}
use Rattle.mustache_scan.proofs.CutLemmas.{cut_here}
use Rattle.mustache_scan.proofs.ReadingLemmas.{reading-step, cut_parts}

pub with-append : (a b : List Piece) (r : Pieces) → with_pieces (a ++ b) r ≡ with_pieces a (with_pieces b r)
with-append a b r = ap (λ (l : List Piece). record { pieces = l; wrong = r.wrong }) (append_assoc a b r.pieces)

pub at_cut : (d : Pair) (t : List ℕ) (r : Option (List ℕ × List ℕ)) → Opens d → cut d.opening t ≡ r → reading d t ≡ after_cut reading d t r
at_cut d t r opens is = reading-step d t opens ∙ ap (after_cut reading d t) is

pub braces_open : Opens braces
braces_open = lit< tt

-- a text that begins with an opening delimiter begins with a tag
pub at_tag : (after : List ℕ) → reading braces (braces.opening ++ after) ≡ after_opening reading braces after (tag_after braces.closing after)
at_tag after = at_cut braces (braces.opening ++ after) (Some ([], after)) braces_open (cut_here braces.opening 123 (123 ∷ after) refl)

-- what follows a tag ends what follows its opening delimiter
abbrev pub EndsIn : List ℕ → List ℕ → Type 0
EndsIn t end = (first : List ℕ) × (t ≡ first ++ end)

ends-cut : (kind : TokenKind) (part t : List ℕ) (o : Opened) (r : Option (List ℕ × List ℕ)) → cut part t ≡ r → opened_as kind r ≡ Some o → EndsIn t o.rest
ends-cut kind part t o None is h = absurd (cc)
ends-cut kind part t o (Some (inside, rest)) is h =
    let e : o ≡ record { kind = kind; inside = inside; rest = rest } = cc in
    subst (λ (z : Opened). EndsIn t z.rest) (sym e) (inside ++ part, cut_parts part t (inside, rest) is ∙ sym (append_assoc inside part rest))

pub ends-more : (first t end : List ℕ) → EndsIn t end → EndsIn (first ++ t) end
ends-more first t end h = (first ++ h.0, ap (λ l. first ++ l) h.1 ∙ sym (append_assoc first h.0 end))

ends-signed : (closing : List ℕ) (b : ℕ) (bs : List ℕ) (k : Option TokenKind) (o : Opened) → signed closing b bs k ≡ Some o → EndsIn (b ∷ bs) o.rest
ends-signed closing b bs (Some kind) o h = ends-more (b ∷ []) bs o.rest (ends-cut kind (partner b ++ closing) bs o _ refl h)
ends-signed closing b bs None o h = ends-cut Variable closing (b ∷ bs) o _ refl h

ends-tag_in : (closing t : List ℕ) (o : Opened) → tag_in closing t ≡ Some o → EndsIn t o.rest
ends-tag_in closing [] o h = absurd (cc)
ends-tag_in closing (b ∷ bs) o h = ends-signed closing b bs (kind_of_sign b) o h

pub ends-tag_after : (closing t : List ℕ) (o : Opened) → tag_after closing t ≡ Some o → EndsIn t o.rest
ends-tag_after closing t o h =
    let n = prefix_len is_padding t in
    subst (λ l. EndsIn l o.rest) (take-append-drop n t) (ends-more (take n t) (unpadded t) o.rest (ends-tag_in closing (unpadded t) o h))

-- a text is what is before its end, and that end
pub before_end : (t end : List ℕ) → EndsIn t end → take (length t - length end) t ++ end ≡ t
before_end t end ends =
    let l : length ends.0 ≡ length t - length end = omega (arith, ap length ends.1, length-append ends.0 end) in
    ap (λ l. take (length t - length end) l ++ end) ends.1 ∙ ap (λ l. l ++ end) (take_at ends.0 end (length t - length end) l) ∙ sym ends.1
