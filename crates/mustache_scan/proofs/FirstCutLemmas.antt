-- A cut is round the first place of its part, and there is none if and only if the part stands nowhere.
use Rattle.std.proofs.Common.{◌≡◌, ℕ, ◌+◌, ◌<◌, ◌≤◌, List, [], ◌∷◌, ◌++◌, length, take, drop, nat_eq, Option, Some, None, refl, sym, ap, subst, ◌∙◌, arith, ⊎_elim, length-append, length-take, take-append-drop}
use Rattle.std.proofs.Math.Seq.{take-append_seam, drop-append_seam, drop-append-add}
use Rattle.std.proofs.lemmas.Bool.{cases_Bool}
use Rattle.std.proofs.lemmas.Slice.Eq.{bytes_eq-Decides}
use Rattle.std.specs.List.{starts_with}
use Rattle.mustache_scan.specs.Cutting.{cut, behind}
use Rattle.mustache_scan.specs.Laws.{IsFirstCut, CutIsFirst, NoCutIsNowhere}
use Rattle.mustache_scan.proofs.CutLemmas.{Here, cut_here, cut_past, cut_at, cut_nowhere}
use Rattle.mustache_scan.proofs.ReadingLemmas.{cut_parts}

-- the part is at the front of a text if and only if the text is the part and more
from_here : (part u : List ℕ) → Here part u → u ≡ part ++ drop (length part) u
from_here part u h = sym (take-append-drop (length part) u) ∙ ap (λ l. l ++ drop (length part) u) (sym ((bytes_eq-Decides part (take (length part) u)).0 h))

to_here : (part u e : List ℕ) → u ≡ part ++ e → Here part u
to_here part u e is = (bytes_eq-Decides part (take (length part) u)).1 (sym (ap (take (length part)) is ∙ take-append_seam part e))

-- where it stands further on, the text falls into three
split_at : (part t : List ℕ) (j : ℕ) → Here part (drop j t) → t ≡ take j t ++ (part ++ drop (length part) (drop j t))
split_at part t j h = sym (take-append-drop j t) ∙ ap (λ l. take j t ++ l) (from_here part (drop j t) h)

some_none : {A : Type 0} {x : A} → Some x ≡ None → ⊥
some_none h = absurd (cc)

-- the place of the part that another splitting shows
module _ (part : List ℕ) (some : 0 < length part) where
  not_empty : (c e : List ℕ) → [] ≡ c ++ (part ++ e) → ⊥
  not_empty c e is = omega (arith, ap length is, length-append c (part ++ e), length-append part e)

  shifted : (b : ℕ) (bs e c : List ℕ) (d : ℕ) → b ∷ bs ≡ (d ∷ c) ++ (part ++ e) → bs ≡ c ++ (part ++ e)
  shifted b bs e c d is = cc

  none_behind : (b : ℕ) (r : Option (List ℕ × List ℕ)) → behind b r ≡ None → r ≡ None
  none_behind b None h = refl
  none_behind b (Some y) h = absurd (cc)

  cut_none : (t c e : List ℕ) → cut part t ≡ None → t ≡ c ++ (part ++ e) → ⊥
  cut_none [] c e none is = not_empty c e is
  cut_none (b ∷ bs) [] e none is = some_none (sym (cut_here part b bs (to_here part (b ∷ bs) e is)) ∙ none)
  cut_none (b ∷ bs) (d ∷ c) e none is = ⊎_elim
      (λ here. some_none (sym (cut_here part b bs here) ∙ none))
      (λ past. cut_none bs c e (none_behind b (cut part bs) (sym (cut_past part b bs past) ∙ none)) (shifted b bs e c d is))
      (cases_Bool (starts_with nat_eq (b ∷ bs) part))

  at_front : (u : List ℕ) (n : ℕ) (x : List ℕ × List ℕ) → Some ([], u) ≡ Some x → length x.0 ≤ n
  at_front u n x h =
      let e : ([], u) ≡ x = cc in
      subst (λ (z : List ℕ × List ℕ). length z.0 ≤ n) e (omega arith)

  first_behind : (b n : ℕ) (r : Option (List ℕ × List ℕ)) (x : List ℕ × List ℕ) → ((y : List ℕ × List ℕ) → r ≡ Some y → length y.0 ≤ n) → behind b r ≡ Some x → length x.0 ≤ n + 1
  first_behind b n None x first h = absurd (cc)
  first_behind b n (Some y) x first h =
      let e : (b ∷ y.0, y.1) ≡ x = cc in
      let le = first y refl in
      subst (λ (z : List ℕ × List ℕ). length z.0 ≤ n + 1) e (omega arith)

  cut_first : (t c e : List ℕ) (x : List ℕ × List ℕ) → cut part t ≡ Some x → t ≡ c ++ (part ++ e) → length x.0 ≤ length c
  cut_first [] c e x h is = absurd (not_empty c e is)
  cut_first (b ∷ bs) [] e x h is = at_front (drop (length part) (b ∷ bs)) 0 x (sym (cut_here part b bs (to_here part (b ∷ bs) e is)) ∙ h)
  cut_first (b ∷ bs) (d ∷ c) e x h is = ⊎_elim
      (λ here. at_front (drop (length part) (b ∷ bs)) (length (d ∷ c)) x (sym (cut_here part b bs here) ∙ h))
      (λ past.
      let le : length x.0 ≤ length c + 1 = first_behind b (length c) (cut part bs) x (λ y is'. cut_first bs c e y is' (shifted b bs e c d is)) (sym (cut_past part b bs past) ∙ h) in
      omega arith)
      (cases_Bool (starts_with nat_eq (b ∷ bs) part))

  -- and back
  cut_is : (t a b : List ℕ) → IsFirstCut part t a b → cut part t ≡ Some (a, b)
  cut_is t a b h =
      let l : length t ≡ length a + (length part + length b) = ap length h.whole ∙ length-append a (part ++ b) ∙ ap (λ n. length a + n) (length-append part b) in
      let there : drop (length a) t ≡ part ++ b = ap (drop (length a)) h.whole ∙ drop-append_seam a (part ++ b) in
      let front : take (length a) t ≡ a = ap (take (length a)) h.whole ∙ take-append_seam a (part ++ b) in
      let back : drop (length a + length part) t ≡ b = ap (drop (length a + length part)) h.whole ∙ drop-append-add a (part ++ b) (length part) ∙ drop-append_seam part b in
      cut_at part t (length a) (omega arith) (to_here part (drop (length a) t) b there)
      (λ j below here. let le : length a ≤ length (take j t) = h.first (take j t) (drop (length part) (drop j t)) (split_at part t j here) in omega (arith, length-take j t))
      ∙ ap (λ f. Some (f, drop (length a + length part) t)) front ∙ ap (λ l. Some (a, l)) back

pub cut_is_first : CutIsFirst
cut_is_first part t a b some =
    ((λ h. record { whole = cut_parts part t (a, b) h; first = λ c e is. cut_first part some t c e (a, b) h is }), cut_is part some t a b)

pub no_cut_is_nowhere : NoCutIsNowhere
no_cut_is_nowhere part t some =
    ((λ none c e is. cut_none part some t c e none is), λ nowhere. cut_nowhere part t (λ j here. nowhere (take j t) (drop (length part) (drop j t)) (split_at part t j here)))
