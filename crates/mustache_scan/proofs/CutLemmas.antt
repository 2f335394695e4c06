-- A cut at the first place of a part, beside what a search for that part answers; and where a text may be cut.
use Rattle.std.proofs.Common.{◌≡◌, ℕ, zero, suc, ◌+◌, ◌<◌, ◌≤◌, true, false, List, [], ◌∷◌, length, get_or, take, drop, nat_eq, Some, None, refl, sym, ap, ◌∙◌, arith, ⊎_elim, length-take, length-drop}
use Rattle.std.proofs.lemmas.Bool.{cases_Bool}
use Rattle.std.proofs.lemmas.Slice.Eq.{bytes_eq-Decides}
use Rattle.std.proofs.lemmas.Str.{IsCharBoundary-start, IsCharBoundary-from_take, IsCharBoundary-from_rest, IsUtf8-drop}
use Rattle.std.specs.List.{starts_with}
use Rattle.std.specs.Str.{IsUtf8, IsCharBoundary}
use Rattle.memchr.specs.Find.{OccursAt, FindsNeedle}
use Rattle.memchr.proofs.lemmas.MatchLemmas.{OccursAt-part, OccursAt-from_part}
use Rattle.mustache_scan.specs.Cutting.{cut, behind}

-- the part is at the front of the text
abbrev pub Here : List ℕ → List ℕ → Type 0
Here part t = starts_with nat_eq t part ≡ true

here : (part t : List ℕ) (k : ℕ) → OccursAt t part k → Here part (drop k t)
here part t k h = (bytes_eq-Decides part (take (length part) (drop k t))).1 (sym (OccursAt-part t part k h))

occurs : (part t : List ℕ) (k : ℕ) → 0 < length part → Here part (drop k t) → OccursAt t part k
occurs part t k some h =
    let e = (bytes_eq-Decides part (take (length part) (drop k t))).0 h in
    let l = ap length e in
    OccursAt-from_part t part k (omega (arith, l, length-take (length part) (drop k t), length-drop k t)) (sym e)

pub cut_here : (part : List ℕ) (b : ℕ) (bs : List ℕ) → Here part (b ∷ bs) → cut part (b ∷ bs) ≡ Some ([], drop (length part) (b ∷ bs))
unfolding cut
cut_here part b bs h = rw (h, cut)

pub cut_past : (part : List ℕ) (b : ℕ) (bs : List ℕ) → starts_with nat_eq (b ∷ bs) part ≡ false → cut part (b ∷ bs) ≡ behind b (cut part bs)
unfolding cut
cut_past part b bs h = rw (h, cut)

pub cut_nil : (part : List ℕ) → cut part [] ≡ None
unfolding cut
cut_nil part = refl

not_here : (part t : List ℕ) → (Here part t → ⊥) → starts_with nat_eq t part ≡ false
not_here part t h = ⊎_elim (λ yes. absurd (h yes)) (λ no. no) (cases_Bool (starts_with nat_eq t part))

-- the cut at a part's first place
pub cut_at : (part t : List ℕ) (k : ℕ) → k < length t → Here part (drop k t) → ((j : ℕ) → j < k → Here part (drop j t) → ⊥) → cut part t ≡ Some (take k t, drop (k + length part) t)
cut_at part [] k l h before = absurd (omega arith)
cut_at part (b ∷ bs) zero l h before = cut_here part b bs h ∙ (let e : length part ≡ 0 + length part = omega arith in ap (λ n. Some ([], drop n (b ∷ bs))) e)
cut_at part (b ∷ bs) (suc k) l h before =
    cut_past part b bs (not_here part (b ∷ bs) (before 0 (omega arith)))
    ∙ ap (behind b) (cut_at part bs k (omega arith) h (λ j below. before (suc j) (omega arith)))
    ∙ (let e : suc (k + length part) ≡ suc k + length part = omega arith in ap (λ n. Some (b ∷ take k bs, drop n (b ∷ bs))) e)

-- a text without the part isn't cut
pub cut_nowhere : (part t : List ℕ) → ((j : ℕ) → Here part (drop j t) → ⊥) → cut part t ≡ None
cut_nowhere part [] none = cut_nil part
cut_nowhere part (b ∷ bs) none = cut_past part b bs (not_here part (b ∷ bs) (none 0)) ∙ ap (behind b) (cut_nowhere part bs (λ j. none (suc j)))

-- where a search says that the part stands, the text is cut
pub cut_found : (part t : List ℕ) (k : ℕ) → 0 < length part → FindsNeedle t part 0 (Some k) → cut part t ≡ Some (take k t, drop (k + length part) t)
cut_found part t k some h =
    let stands = h.1.fits in
    cut_at part t k (omega arith) (here part t k h.1) (λ j below at. h.0.before j (omega arith) below (occurs part t j some at))

pub cut_absent : (part t : List ℕ) → 0 < length part → FindsNeedle t part 0 None → cut part t ≡ None
cut_absent part t some h = cut_nowhere part t (λ j at. let o = occurs part t j some at in let stands = o.fits in h j (omega arith) (omega arith) o)

-- a text may be cut where a text stands in it
pub boundary_before : (part t : List ℕ) (k : ℕ) → 0 < length part → IsUtf8 part → OccursAt t part k → IsCharBoundary t k
boundary_before part t k some u h =
    let stands = h.fits in
    let same : get_or t k 0 ≡ get_or part 0 0 = (let e : k ≡ k + 0 = omega arith in ap (λ n. get_or t n 0) e) ∙ h.reads 0 some in
    (omega arith, λ l high. rw same ((IsCharBoundary-start part u).1 some (rw same at high)))

pub boundary_after : (part t : List ℕ) (k : ℕ) → 0 < length part → IsUtf8 part → IsUtf8 t → OccursAt t part k → IsCharBoundary t (k + length part)
boundary_after part t k some u v h =
    let stands = h.fits in
    let le : length part ≤ length (drop k t) = omega (arith, length-drop k t) in
    IsCharBoundary-from_rest t k (length part) (omega arith)
    (IsCharBoundary-from_take (drop k t) (length part) (IsUtf8-drop t k v (boundary_before part t k some u h)) le (rw (OccursAt-part t part k h) u))
