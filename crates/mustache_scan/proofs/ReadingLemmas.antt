-- The reading of a text, one tag at a time, with no bound on the tags.
use Rattle.std.proofs.Common.{◌≡◌, ℕ, zero, suc, ◌+◌, ◌<◌, ◌≤◌, Bool, true, false, ◌&&◌, if◌then◌else◌, List, [], ◌∷◌, ◌++◌, length, take, drop, nat_eq, Option, Some, None, refl, sym, ap, subst, ◌∙◌, arith, ⊎_elim, length-drop, length-append, take-append-drop}
use Rattle.std.proofs.lemmas.Bool.{cases_Bool, false≢true}
use Rattle.std.proofs.lemmas.Slice.Eq.{bytes_eq-Decides}
use Rattle.std.specs.List.{starts_with, prefix_len, before_first}
use Rattle.mustache_scan.proofs.CutLemmas.{cut_here, cut_past, cut_nil}
use Rattle.mustache_scan.specs.Cutting.{cut, behind, is_padding, unpadded, stripped}
use Rattle.mustache_scan.specs.Laws.{Opens}
use Rattle.mustache_scan.specs.Names.{Pair, is_sequence, delimiters_in}
use Rattle.mustache_scan.specs.Reading.{Opened, opened_as, signed, tag_in, tag_after, kind_of_sign, partner, wrong_inside, changed, delimiters_after, Pieces, with_pieces, literal, tag, ends_here, after_tag, after_opening, after_cut, one_tag, reading_within, reading}
use Rattle.mustache_scan.specs.declared.token.TokenKind.{TokenKind}
use Rattle.mustache_scan.specs.declared.token.TokenKind.TheVariants.{Variable, Delimiters}
use Rattle.mustache_scan.specs.declared.fault.FaultKind.{FaultKind}

behind_parts : (b : ℕ) (bs part : List ℕ) (r : Option (List ℕ × List ℕ)) (x : List ℕ × List ℕ) → ((y : List ℕ × List ℕ) → r ≡ Some y → bs ≡ y.0 ++ (part ++ y.1)) → behind b r ≡ Some x → b ∷ bs ≡ x.0 ++ (part ++ x.1)
behind_parts b bs part None x ih h = absurd (cc)
behind_parts b bs part (Some y) x ih h =
    let e : x ≡ (b ∷ y.0, y.1) = cc in
    subst (λ (z : List ℕ × List ℕ). b ∷ bs ≡ z.0 ++ (part ++ z.1)) (sym e) (ap (λ l. b ∷ l) (ih y refl))

here_parts : (part t : List ℕ) (x : List ℕ × List ℕ) → starts_with nat_eq t part ≡ true → Some ([], drop (length part) t) ≡ Some x → t ≡ x.0 ++ (part ++ x.1)
here_parts part t x h e =
    let is : part ≡ take (length part) t = (bytes_eq-Decides part (take (length part) t)).0 h in
    let same : x ≡ ([], drop (length part) t) = cc in
    subst (λ (z : List ℕ × List ℕ). t ≡ z.0 ++ (part ++ z.1)) (sym same) (sym (take-append-drop (length part) t) ∙ ap (λ l. l ++ drop (length part) t) (sym is))

-- what a cut gives, with the part between, is the text
pub cut_parts : (part t : List ℕ) (x : List ℕ × List ℕ) → cut part t ≡ Some x → t ≡ x.0 ++ (part ++ x.1)
cut_parts part [] x h = let e = sym (cut_nil part) ∙ h in absurd (cc)
cut_parts part (b ∷ bs) x h = ⊎_elim
    (λ yes. here_parts part (b ∷ bs) x yes (sym (cut_here part b bs yes) ∙ h))
    (λ no. behind_parts b bs part (cut part bs) x (λ y. cut_parts part bs y) (sym (cut_past part b bs no) ∙ h))
    (cases_Bool (starts_with nat_eq (b ∷ bs) part))

pub cut_lengths : (part t : List ℕ) (x : List ℕ × List ℕ) → cut part t ≡ Some x → length t ≡ length x.0 + (length part + length x.1)
cut_lengths part t x h = ap length (cut_parts part t x h) ∙ length-append x.0 (part ++ x.1) ∙ ap (λ n. length x.0 + n) (length-append part x.1)

-- what follows a tag is no longer than what follows its opening delimiter
opened_rest : (kind : TokenKind) (part t : List ℕ) (o : Opened) → opened_as kind (cut part t) ≡ Some o → length o.rest ≤ length t
opened_rest kind part t o h = from_cut kind part t o (cut part t) refl h
  where
    from_cut : (kind : TokenKind) (part t : List ℕ) (o : Opened) (r : Option (List ℕ × List ℕ)) → cut part t ≡ r → opened_as kind r ≡ Some o → length o.rest ≤ length t
    from_cut kind part t o None is h = absurd (cc)
    from_cut kind part t o (Some (inside, rest)) is h =
        let e : o ≡ record { kind = kind; inside = inside; rest = rest } = cc in
        let l : length t ≡ length inside + (length part + length rest) = cut_lengths part t (inside, rest) is in
        subst (λ (z : Opened). length z.rest ≤ length t) (sym e) (omega arith)

signed_rest : (closing : List ℕ) (b : ℕ) (bs : List ℕ) (k : Option TokenKind) (o : Opened) → signed closing b bs k ≡ Some o → length o.rest ≤ length bs + 1
signed_rest closing b bs (Some kind) o h = let l = opened_rest kind (partner b ++ closing) bs o h in omega arith
signed_rest closing b bs None o h = let l = opened_rest Variable closing (b ∷ bs) o h in omega arith

tag_in_rest : (closing t : List ℕ) (o : Opened) → tag_in closing t ≡ Some o → length o.rest ≤ length t
tag_in_rest closing [] o h = absurd (cc)
tag_in_rest closing (b ∷ bs) o h = let l = signed_rest closing b bs (kind_of_sign b) o h in omega arith

pub tag_after_rest : (closing t : List ℕ) (o : Opened) → tag_after closing t ≡ Some o → length o.rest ≤ length t
tag_after_rest closing t o h = let l = tag_in_rest closing (unpadded t) o h in omega (arith, length-drop (prefix_len is_padding t) t)

sequence_some : (s : List ℕ) (b : Bool) → (is_sequence s && b) ≡ true → 0 < length s
sequence_some [] b h = absurd (false≢true h)
sequence_some (x ∷ xs) b h = omega arith

chosen : (b : Bool) (first second : List ℕ) (e : Pair) → (b ≡ true → 0 < length first) → (if b then Some (record { opening = first; closing = second }) else None) ≡ Some e → Opens e
chosen true first second e some h = let same : e ≡ record { opening = first; closing = second } = cc in subst (λ (z : Pair). 0 < length z.opening) (sym same) (some refl)
chosen false first second e some h = absurd (cc)

delimiters_open : (inside : List ℕ) (e : Pair) → delimiters_in inside ≡ Some e → Opens e
delimiters_open inside e h =
    let first = before_first is_padding inside in
    let second = unpadded (drop (length first) inside) in
    chosen (is_sequence first && is_sequence second) first second e (sequence_some first (is_sequence second)) h

changed_open : (d : Pair) (inside : List ℕ) (r : Option Pair) → delimiters_in inside ≡ r → Opens d → Opens (changed d r)
changed_open d inside None is h = h
changed_open d inside (Some e) is h = delimiters_open inside e is

pub after_open : (d : Pair) (kind : TokenKind) (inside : List ℕ) → Opens d → Opens (delimiters_after d kind inside)
after_open d Delimiters inside h = changed_open d inside (delimiters_in inside) refl h
after_open d _ inside h = h

-- two ways to read what follows a tag give one reading where they agree on shorter texts
module _ (more other : Pair → List ℕ → Pieces) (d : Pair) (opens : Opens d) where
  same_tag : (after : List ℕ) (o : Opened) (w : Option FaultKind) → ((e : Pair) → Opens e → more e o.rest ≡ other e o.rest) → after_tag more d after o w ≡ after_tag other d after o w
  same_tag after o (Some w) agree = refl
  same_tag after o None agree = ap (with_pieces (tag d.opening after o)) (agree (delimiters_after d o.kind (stripped o.inside)) (after_open d o.kind (stripped o.inside) opens))

  same_opening : (after : List ℕ) (r : Option Opened) → tag_after d.closing after ≡ r → ((e : Pair) (u : List ℕ) → Opens e → length u ≤ length after → more e u ≡ other e u) → after_opening more d after r ≡ after_opening other d after r
  same_opening after None is agree = refl
  same_opening after (Some o) is agree = same_tag after o (wrong_inside o.kind (stripped o.inside)) (λ e opens'. agree e o.rest opens' (tag_after_rest d.closing after o is))

  same_cut : (t : List ℕ) (r : Option (List ℕ × List ℕ)) → cut d.opening t ≡ r → ((e : Pair) (u : List ℕ) → Opens e → length u < length t → more e u ≡ other e u) → after_cut more d t r ≡ after_cut other d t r
  same_cut t None is agree = refl
  same_cut t (Some (before, after)) is agree =
      let l : length t ≡ length before + (length d.opening + length after) = cut_lengths d.opening t (before, after) is in
      ap (with_pieces (literal before)) (same_opening after (tag_after d.closing after) refl (λ e u opens' le. agree e u opens' (omega arith)))

  pub same_step : (t : List ℕ) → ((e : Pair) (u : List ℕ) → Opens e → length u < length t → more e u ≡ other e u) → one_tag more d t ≡ one_tag other d t
  same_step t agree = same_cut t (cut d.opening t) refl agree

no_text : (more : Pair → List ℕ → Pieces) (d : Pair) (t : List ℕ) → length t ≤ 0 → with_pieces (literal t) (ends_here None) ≡ one_tag more d t
no_text more d [] le = rw (cut_nil d.opening)
no_text more d (b ∷ bs) le = absurd (omega arith)

-- as many tags as there are bytes are enough, and more change nothing
pub enough : (m n : ℕ) (d : Pair) (t : List ℕ) → Opens d → length t ≤ m → length t ≤ n → reading_within m d t ≡ reading_within n d t
unfolding reading_within
enough zero zero d t opens a b = refl
enough zero (suc n) d t opens a b = no_text (reading_within n) d t a
enough (suc m) zero d t opens a b = sym (no_text (reading_within m) d t b)
enough (suc m) (suc n) d t opens a b = same_step (reading_within m) (reading_within n) d opens t (λ e u opens' l. enough m n e u opens' (omega arith) (omega arith))

within_suc : (n : ℕ) (d : Pair) (t : List ℕ) → reading_within (suc n) d t ≡ one_tag (reading_within n) d t
unfolding reading_within
within_suc n d t = refl

-- the reading of a text, by the readings of shorter texts
pub reading-step : (d : Pair) (t : List ℕ) → Opens d → reading d t ≡ one_tag reading d t
reading-step d t opens =
    enough (length t) (suc (length t)) d t opens (omega arith) (omega arith)
    ∙ within_suc (length t) d t
    ∙ same_step (reading_within (length t)) reading d opens t (λ e u opens' l. enough (length t) (length u) e u opens' (omega arith) (omega arith))
