-- Indenting a text changes no cut: `w` comes after newlines, and no delimiter holds padding.
use Rattle.std.proofs.Common.{◌≡◌, ℕ, zero, suc, Bool, true, false, ◌&&◌, List, [], ◌∷◌, ◌++◌, length, drop, nat_eq, Option, Some, None, refl, sym, ap, subst, ◌∙◌, arith, append_assoc, ⊎_elim}
use Rattle.std.specs.List.{starts_with, flat_map, onto_first}
use Rattle.mustache_parse.specs.Indent.{lines, indented}
use Rattle.mustache_parse.specs.Indenting.{spread, after_each}
use Rattle.std.proofs.lemmas.Bool.{cases_Bool, false≢true}
use Rattle.std.proofs.lemmas.Bool.Decides.{nat_tests}
use Rattle.mustache_scan.specs.Cutting.{cut, behind, is_padding, is_blank}
use Rattle.mustache_scan.proofs.CutLemmas.{cut_here, cut_past, cut_nil}

abbrev pub moved : List ℕ → Option (List ℕ × List ℕ) → Option (List ℕ × List ℕ)
moved w None = None
moved w (Some (before, after)) = Some (after_each w before, spread w after)

-- bytes that all pass a test
abbrev pub AllAre : (ℕ → Bool) → List ℕ → Type 0
AllAre p [] = Unit {0}
AllAre p (b ∷ bs) = (p b ≡ true) × AllAre p bs

abbrev pub NoneAre : (ℕ → Bool) → List ℕ → Type 0
NoneAre p [] = Unit {0}
NoneAre p (b ∷ bs) = (p b ≡ false) × NoneAre p bs

-- a cut with more bytes before it
abbrev pub behind_all : List ℕ → Option (List ℕ × List ℕ) → Option (List ℕ × List ℕ)
behind_all [] r = r
behind_all (b ∷ bs) r = behind b (behind_all bs r)

pub blank_padding : (b : ℕ) → is_blank b ≡ true → is_padding b ≡ true
blank_padding b h = grind (arith, nat_tests)

pub newline_padding : (b : ℕ) → nat_eq b 10 ≡ true → is_padding b ≡ true
newline_padding b h = grind (arith, nat_tests)

head_differs : (p b : ℕ) → is_padding p ≡ false → is_padding b ≡ true → nat_eq p b ≡ false
head_differs p b x y = grind (arith, nat_tests)

-- no delimiter begins with padding
misses : (p : ℕ) (ps : List ℕ) (b : ℕ) (t : List ℕ) → is_padding p ≡ false → is_padding b ≡ true → starts_with nat_eq (b ∷ t) (p ∷ ps) ≡ false
misses p ps b t x y = rw (head_differs p b x y) refl

-- padding before a text moves a cut on
pub past_blanks : (p : ℕ) (ps w t : List ℕ) → is_padding p ≡ false → AllAre is_blank w → cut (p ∷ ps) (w ++ t) ≡ behind_all w (cut (p ∷ ps) t)
past_blanks p ps [] t x h = refl
past_blanks p ps (b ∷ w) t x h = cut_past (p ∷ ps) b (w ++ t) (misses p ps b (w ++ t) x (blank_padding b h.0)) ∙ ap (behind b) (past_blanks p ps w t x h.1)

pub spread_newline : (w : List ℕ) (b c : ℕ) (bs : List ℕ) → nat_eq b 10 ≡ true → spread w (b ∷ c ∷ bs) ≡ b ∷ (w ++ spread w (c ∷ bs))
spread_newline w b c bs h = rw (h, spread)

pub spread_other : (w : List ℕ) (b c : ℕ) (bs : List ℕ) → nat_eq b 10 ≡ false → spread w (b ∷ c ∷ bs) ≡ b ∷ spread w (c ∷ bs)
spread_other w b c bs h = rw (h, spread)

pub after_each_newline : (w : List ℕ) (b : ℕ) (bs : List ℕ) → nat_eq b 10 ≡ true → after_each w (b ∷ bs) ≡ b ∷ (w ++ after_each w bs)
after_each_newline w b bs h = rw (h, after_each)

pub after_each_other : (w : List ℕ) (b : ℕ) (bs : List ℕ) → nat_eq b 10 ≡ false → after_each w (b ∷ bs) ≡ b ∷ after_each w bs
after_each_other w b bs h = rw (h, after_each)

pub behind_all-none : (w : List ℕ) → behind_all w None ≡ None
behind_all-none [] = refl
behind_all-none (b ∷ w) = ap (behind b) (behind_all-none w)

pub behind_all-some : (w x y : List ℕ) → behind_all w (Some (x, y)) ≡ Some (w ++ x, y)
behind_all-some [] x y = refl
behind_all-some (b ∷ w) x y = ap (behind b) (behind_all-some w x y)

moved_newline : (w : List ℕ) (b : ℕ) (r : Option (List ℕ × List ℕ)) → nat_eq b 10 ≡ true → behind b (behind_all w (moved w r)) ≡ moved w (behind b r)
moved_newline w b None h = ap (behind b) (behind_all-none w)
moved_newline w b (Some (x, y)) h = ap (behind b) (behind_all-some w (after_each w x) (spread w y)) ∙ ap (λ l. Some (l, spread w y)) (sym (after_each_newline w b x h))

moved_other : (w : List ℕ) (b : ℕ) (r : Option (List ℕ × List ℕ)) → nat_eq b 10 ≡ false → behind b (moved w r) ≡ moved w (behind b r)
moved_other w b None h = refl
moved_other w b (Some (x, y)) h = ap (λ l. Some (l, spread w y)) (sym (after_each_other w b x h))

-- what begins a text begins it indented
same_start : (part w t : List ℕ) → NoneAre is_padding part → starts_with nat_eq (spread w t) part ≡ starts_with nat_eq t part
same_start [] w t h = refl
same_start (q ∷ qs) w [] h = refl
same_start (q ∷ qs) w (b ∷ []) h = refl
same_start (q ∷ qs) w (b ∷ c ∷ bs) h = ⊎_elim
    (λ yes. ap (λ t. starts_with nat_eq t (q ∷ qs)) (spread_newline w b c bs yes) ∙ misses q qs b _ h.0 (newline_padding b yes) ∙ sym (misses q qs b (c ∷ bs) h.0 (newline_padding b yes)))
    (λ no. ap (λ t. starts_with nat_eq t (q ∷ qs)) (spread_other w b c bs no) ∙ ap (λ x. nat_eq q b && x) (same_start qs w (c ∷ bs) h.1))
    (cases_Bool (nat_eq b 10))

drop_none : (n : ℕ) → drop {A = ℕ} n [] ≡ []
drop_none zero = refl
drop_none (suc n) = refl

pub both : (a b : Bool) → (a && b) ≡ true → (a ≡ true) × (b ≡ true)
both true b h = (refl, h)
both false b h = absurd (false≢true h)

same_newline : (q b : ℕ) → nat_eq q b ≡ true → is_padding q ≡ false → nat_eq b 10 ≡ false
same_newline q b e h = grind (arith, nat_tests)

-- what follows a part that begins the text
drop_spread : (part w t : List ℕ) → NoneAre is_padding part → starts_with nat_eq t part ≡ true → drop (length part) (spread w t) ≡ spread w (drop (length part) t)
drop_spread [] w t h s = refl
drop_spread (q ∷ qs) w [] h s = refl
drop_spread (q ∷ qs) w (b ∷ []) h s = drop_none (length qs) ∙ ap (spread w) (sym (drop_none (length qs)))
drop_spread (q ∷ qs) w (b ∷ c ∷ bs) h s =
    let parts = both (nat_eq q b) _ s in
    ap (drop (suc (length qs))) (spread_other w b c bs (same_newline q b parts.0 h.0)) ∙ drop_spread qs w (c ∷ bs) h.1 parts.1

-- at a byte that is no newline
other : (p : ℕ) (ps w : List ℕ) (b c : ℕ) (bs : List ℕ) → NoneAre is_padding (p ∷ ps) → nat_eq b 10 ≡ false → cut (p ∷ ps) (spread w (c ∷ bs)) ≡ moved w (cut (p ∷ ps) (c ∷ bs)) → cut (p ∷ ps) (spread w (b ∷ c ∷ bs)) ≡ moved w (cut (p ∷ ps) (b ∷ c ∷ bs))
other p ps w b c bs solid plain ih =
    let e = spread_other w b c bs plain in
    let start = ap (λ t. starts_with nat_eq t (p ∷ ps)) (sym e) ∙ same_start (p ∷ ps) w (b ∷ c ∷ bs) solid in
    ⊎_elim
    (λ yes. ap (cut (p ∷ ps)) e ∙ cut_here (p ∷ ps) b (spread w (c ∷ bs)) (start ∙ yes)
    ∙ ap (λ l. Some ([], l)) (ap (drop (length (p ∷ ps))) (sym e) ∙ drop_spread (p ∷ ps) w (b ∷ c ∷ bs) solid yes)
    ∙ ap (moved w) (sym (cut_here (p ∷ ps) b (c ∷ bs) yes)))
    (λ not. ap (cut (p ∷ ps)) e ∙ cut_past (p ∷ ps) b (spread w (c ∷ bs)) (start ∙ not) ∙ ap (behind b) ih
    ∙ moved_other w b (cut (p ∷ ps) (c ∷ bs)) plain ∙ ap (moved w) (sym (cut_past (p ∷ ps) b (c ∷ bs) not)))
    (cases_Bool (starts_with nat_eq (b ∷ c ∷ bs) (p ∷ ps)))

-- Indenting a text and cutting it: the cut of the text, with `w` after each newline of what is before, and
-- what follows indented.
pub cut-spread : (p : ℕ) (ps w t : List ℕ) → NoneAre is_padding (p ∷ ps) → AllAre is_blank w → cut (p ∷ ps) (spread w t) ≡ moved w (cut (p ∷ ps) t)
cut-spread p ps w [] solid blank = cut_nil (p ∷ ps) ∙ ap (moved w) (sym (cut_nil (p ∷ ps)))
cut-spread p ps w (b ∷ []) solid blank = ⊎_elim
    (λ yes. cut_here (p ∷ ps) b [] yes ∙ ap (λ l. Some ([], l)) (drop_spread (p ∷ ps) w (b ∷ []) solid yes) ∙ ap (moved w) (sym (cut_here (p ∷ ps) b [] yes)))
    (λ no. let none = cut_past (p ∷ ps) b [] no ∙ ap (behind b) (cut_nil (p ∷ ps)) in none ∙ ap (moved w) (sym none))
    (cases_Bool (starts_with nat_eq (b ∷ []) (p ∷ ps)))
cut-spread p ps w (b ∷ c ∷ bs) solid blank = ⊎_elim
    (λ yes.
    let miss = λ (t : List ℕ). misses p ps b t solid.0 (newline_padding b yes) in
    ap (cut (p ∷ ps)) (spread_newline w b c bs yes) ∙ cut_past (p ∷ ps) b (w ++ spread w (c ∷ bs)) (miss (w ++ spread w (c ∷ bs)))
    ∙ ap (behind b) (past_blanks p ps w (spread w (c ∷ bs)) solid.0 blank ∙ ap (behind_all w) (cut-spread p ps w (c ∷ bs) solid blank))
    ∙ moved_newline w b (cut (p ∷ ps) (c ∷ bs)) yes ∙ ap (moved w) (sym (cut_past (p ∷ ps) b (c ∷ bs) (miss (c ∷ bs)))))
    (λ no. other p ps w b c bs solid no (cut-spread p ps w (c ∷ bs) solid blank))
    (cases_Bool (nat_eq b 10))

-- lines with `w` before each, and without it before the first
front : List ℕ → List (List ℕ) → List ℕ
front w ls = flat_map (λ line. w ++ line) ls

rest_of : List ℕ → List (List ℕ) → List ℕ
unfolding front
rest_of w [] = []
rest_of w (line ∷ ls) = line ++ front w ls

lines_newline : (b : ℕ) (bs : List ℕ) → nat_eq b 10 ≡ true → lines (b ∷ bs) ≡ (b ∷ []) ∷ lines bs
lines_newline b bs h = rw (h, lines)

lines_other : (b : ℕ) (bs : List ℕ) → nat_eq b 10 ≡ false → lines (b ∷ bs) ≡ onto_first b (lines bs)
lines_other b bs h = rw (h, lines)

rest-onto : (w : List ℕ) (b : ℕ) (ls : List (List ℕ)) → rest_of w (onto_first b ls) ≡ b ∷ rest_of w ls
unfolding rest_of front
rest-onto w b [] = refl
rest-onto w b (line ∷ ls) = refl

front-cons : (w line : List ℕ) (ls : List (List ℕ)) → front w (line ∷ ls) ≡ w ++ rest_of w (line ∷ ls)
unfolding rest_of front
front-cons w line ls = append_assoc w line (front w ls)

front-onto : (w : List ℕ) (b : ℕ) (ls : List (List ℕ)) → front w (onto_first b ls) ≡ w ++ rest_of w (onto_first b ls)
front-onto w b [] = front-cons w (b ∷ []) []
front-onto w b (line ∷ ls) = front-cons w (b ∷ line) ls

front-lines : (w : List ℕ) (b : ℕ) (bs : List ℕ) → front w (lines (b ∷ bs)) ≡ w ++ rest_of w (lines (b ∷ bs))
front-lines w b bs = ⊎_elim
    (λ yes. let P : List (List ℕ) → Type 0 = λ l. front w l ≡ w ++ rest_of w l in subst P (sym (lines_newline b bs yes)) (front-cons w (b ∷ []) (lines bs)))
    (λ other. let P : List (List ℕ) → Type 0 = λ l. front w l ≡ w ++ rest_of w l in subst P (sym (lines_other b bs other)) (front-onto w b (lines bs)))
    (cases_Bool (nat_eq b 10))

rest-first : (w : List ℕ) (b : ℕ) (ls : List (List ℕ)) → rest_of w ((b ∷ []) ∷ ls) ≡ b ∷ front w ls
unfolding rest_of
rest-first w b ls = refl

no_lines : (w : List ℕ) → front w [] ≡ []
unfolding front
no_lines w = refl

no_rest : (w : List ℕ) → rest_of w [] ≡ []
unfolding rest_of
no_rest w = refl

rest-lines : (w : List ℕ) (b : ℕ) (bs : List ℕ) → rest_of w (lines (b ∷ bs)) ≡ spread w (b ∷ bs)
rest-lines w b [] = ⊎_elim
    (λ yes. ap (rest_of w) (lines_newline b [] yes) ∙ rest-first w b [] ∙ ap (λ l. b ∷ l) (no_lines w))
    (λ other. ap (rest_of w) (lines_other b [] other) ∙ rest-onto w b [] ∙ ap (λ l. b ∷ l) (no_rest w))
    (cases_Bool (nat_eq b 10))
rest-lines w b (c ∷ bs) = ⊎_elim
    (λ yes. ap (rest_of w) (lines_newline b (c ∷ bs) yes) ∙ rest-first w b (lines (c ∷ bs)) ∙ ap (λ l. b ∷ l) (front-lines w c bs ∙ ap (λ l. w ++ l) (rest-lines w c bs)) ∙ sym (spread_newline w b c bs yes))
    (λ other. ap (rest_of w) (lines_other b (c ∷ bs) other) ∙ rest-onto w b (lines (c ∷ bs)) ∙ ap (λ l. b ∷ l) (rest-lines w c bs) ∙ sym (spread_other w b c bs other))
    (cases_Bool (nat_eq b 10))

-- Indenting a text that is not empty: `w`, and `w` after each newline that doesn't end it.
pub indented-spread : (w : List ℕ) (b : ℕ) (bs : List ℕ) → indented w (b ∷ bs) ≡ w ++ spread w (b ∷ bs)
unfolding indented front
indented-spread w b bs = front-lines w b bs ∙ ap (λ l. w ++ l) (rest-lines w b bs)
