-- Texts with `w` after their newlines: their parts, and the padding at their ends.
use Rattle.std.proofs.Common.{◌≡◌, ℕ, suc, ◌+◌, ◌-◌, Bool, true, false, cond, List, [], ◌∷◌, ◌++◌, length, take, drop, reverse, nat_eq, refl, sym, ap, subst, ◌∙◌, arith, append_assoc, append-nil, ⊎_elim, length-append}
use Rattle.std.proofs.lemmas.Bool.{cases_Bool}
use Rattle.std.proofs.lemmas.Bool.Decides.{nat_tests}
use Rattle.std.proofs.lemmas.List.{reverse-append, reverse-reverse, take-append-le, take_all}
use Rattle.std.specs.List.{list_all, prefix_len, suffix_len}
use Rattle.mustache_scan.specs.Cutting.{is_padding, is_blank, unpadded, unpadded_end, stripped}
use Rattle.mustache_parse.specs.Indenting.{spread, after_each}
use Rattle.mustache_parse.proofs.IndentLemmas.{AllAre, NoneAre, both, blank_padding, spread_newline, spread_other, after_each_newline, after_each_other}

pub all-are : (p : ℕ → Bool) (bs : List ℕ) → list_all p bs ≡ true → AllAre p bs
all-are p [] h = tt
all-are p (b ∷ bs) h = let parts = both (p b) (list_all p bs) h in (parts.0, all-are p bs parts.1)

all-padding : (w : List ℕ) → AllAre is_blank w → AllAre is_padding w
all-padding [] h = tt
all-padding (b ∷ w) h = (blank_padding b h.0, all-padding w h.1)

pub no_newline : (b : ℕ) → is_padding b ≡ false → nat_eq b 10 ≡ false
no_newline b h = grind (arith, nat_tests)

-- a byte that is no newline, and what follows it
pub spread-plain : (w : List ℕ) (b : ℕ) (bs : List ℕ) → nat_eq b 10 ≡ false → spread w (b ∷ bs) ≡ b ∷ spread w bs
spread-plain w b [] h = refl
spread-plain w b (c ∷ bs) h = spread_other w b c bs h

-- a part without padding stays
pub spread-part : (w part t : List ℕ) → NoneAre is_padding part → spread w (part ++ t) ≡ part ++ spread w t
spread-part w [] t h = refl
spread-part w (q ∷ qs) t h = spread-plain w q (qs ++ t) (no_newline q h.0) ∙ ap (λ l. q ∷ l) (spread-part w qs t h.1)

pub after_each-part : (w part : List ℕ) → NoneAre is_padding part → after_each w part ≡ part
after_each-part w [] h = refl
after_each-part w (q ∷ qs) h = after_each_other w q qs (no_newline q h.0) ∙ ap (λ l. q ∷ l) (after_each-part w qs h.1)

pub after_each-append : (w xs ys : List ℕ) → after_each w (xs ++ ys) ≡ after_each w xs ++ after_each w ys
after_each-append w [] ys = refl
after_each-append w (b ∷ bs) ys = ⊎_elim
    (λ yes. after_each_newline w b (bs ++ ys) yes ∙ ap (λ l. b ∷ (w ++ l)) (after_each-append w bs ys)
    ∙ ap (λ l. b ∷ l) (sym (append_assoc w (after_each w bs) (after_each w ys))) ∙ ap (λ l. l ++ after_each w ys) (sym (after_each_newline w b bs yes)))
    (λ no. after_each_other w b (bs ++ ys) no ∙ ap (λ l. b ∷ l) (after_each-append w bs ys) ∙ ap (λ l. l ++ after_each w ys) (sym (after_each_other w b bs no)))
    (cases_Bool (nat_eq b 10))

-- what more of the text follows has `w` after each newline
pub spread-before : (w xs : List ℕ) (y : ℕ) (ys : List ℕ) → spread w (xs ++ y ∷ ys) ≡ after_each w xs ++ spread w (y ∷ ys)
spread-before w [] y ys = refl
spread-before w (b ∷ bs) y ys = ⊎_elim
    (λ yes. newline bs yes (spread-before w bs y ys) ∙ ap (λ l. l ++ spread w (y ∷ ys)) (sym (after_each_newline w b bs yes)))
    (λ no. spread-plain w b (bs ++ y ∷ ys) no ∙ ap (λ l. b ∷ l) (spread-before w bs y ys) ∙ ap (λ l. l ++ spread w (y ∷ ys)) (sym (after_each_other w b bs no)))
    (cases_Bool (nat_eq b 10))
  where
    newline : (bs : List ℕ) → nat_eq b 10 ≡ true → spread w (bs ++ y ∷ ys) ≡ after_each w bs ++ spread w (y ∷ ys) → spread w (b ∷ (bs ++ y ∷ ys)) ≡ b ∷ ((w ++ after_each w bs) ++ spread w (y ∷ ys))
    newline [] at ih = spread_newline w b y ys at ∙ ap (λ l. b ∷ (l ++ spread w (y ∷ ys))) (sym (append-nil w))
    newline (c ∷ cs) at ih = spread_newline w b c (cs ++ y ∷ ys) at ∙ ap (λ l. b ∷ (w ++ l)) ih ∙ ap (λ l. b ∷ l) (sym (append_assoc w (after_each w (c ∷ cs)) (spread w (y ∷ ys))))

-- padding at the front
on : (n : ℕ) → 1 + n ≡ suc n
on n = omega arith

pub unpadded-yes : (b : ℕ) (bs : List ℕ) → is_padding b ≡ true → unpadded (b ∷ bs) ≡ unpadded bs
unpadded-yes b bs h = ap (λ c. drop (cond c (1 + prefix_len is_padding bs) 0) (b ∷ bs)) h ∙ ap (λ n. drop n (b ∷ bs)) (on (prefix_len is_padding bs))

pub unpadded-no : (b : ℕ) (bs : List ℕ) → is_padding b ≡ false → unpadded (b ∷ bs) ≡ b ∷ bs
unpadded-no b bs h = ap (λ c. drop (cond c (1 + prefix_len is_padding bs) 0) (b ∷ bs)) h

unpadded-past : (w t : List ℕ) → AllAre is_padding w → unpadded (w ++ t) ≡ unpadded t
unpadded-past [] t h = refl
unpadded-past (b ∷ w) t h = unpadded-yes b (w ++ t) h.0 ∙ unpadded-past w t h.1

-- padding at the end
end-yes : (xs : List ℕ) (b : ℕ) → is_padding b ≡ true → unpadded_end (xs ++ b ∷ []) ≡ unpadded_end xs
end-yes xs b h =
    let s = suffix_len is_padding xs in
    let counted : suffix_len is_padding (xs ++ b ∷ []) ≡ 1 + s = ap (prefix_len is_padding) (reverse-append xs (b ∷ [])) ∙ ap (λ c. cond c (1 + s) 0) h in
    let kept : length (xs ++ b ∷ []) - suffix_len is_padding (xs ++ b ∷ []) ≡ length xs - s = omega (arith, counted, length-append xs (b ∷ [])) in
    ap (λ n. take n (xs ++ b ∷ [])) kept ∙ take-append-le (length xs - s) xs (b ∷ []) (omega arith)

end-no : (xs : List ℕ) (b : ℕ) → is_padding b ≡ false → unpadded_end (xs ++ b ∷ []) ≡ xs ++ b ∷ []
end-no xs b h =
    let l = xs ++ b ∷ [] in
    let counted : suffix_len is_padding l ≡ 0 = ap (prefix_len is_padding) (reverse-append xs (b ∷ [])) ∙ ap (λ c. cond c (1 + suffix_len is_padding xs) 0) h in
    take_all (length l - suffix_len is_padding l) l (omega (arith, counted))

end-past : (pad xs : List ℕ) → AllAre is_padding pad → unpadded_end (xs ++ pad) ≡ unpadded_end xs
end-past [] xs h = ap unpadded_end (append-nil xs)
end-past (b ∷ pad) xs h = ap unpadded_end (sym (append_assoc xs (b ∷ []) pad)) ∙ end-past pad (xs ++ b ∷ []) h.1 ∙ end-yes xs b h.0

module _ (w : List ℕ) (blank : AllAre is_blank w) where
  -- what padding stands before is the same, with `w` after its newlines
  pub unpadded-spread : (t : List ℕ) → unpadded (spread w t) ≡ spread w (unpadded t)
  unpadded-spread [] = refl
  unpadded-spread (b ∷ bs) = ⊎_elim
      (λ yes. padded bs yes (unpadded-spread bs) ∙ ap (spread w) (sym (unpadded-yes b bs yes)))
      (λ no. ap unpadded (spread-plain w b bs (no_newline b no)) ∙ unpadded-no b (spread w bs) no ∙ sym (spread-plain w b bs (no_newline b no)) ∙ ap (spread w) (sym (unpadded-no b bs no)))
      (cases_Bool (is_padding b))
    where
      padded : (bs : List ℕ) → is_padding b ≡ true → unpadded (spread w bs) ≡ spread w (unpadded bs) → unpadded (spread w (b ∷ bs)) ≡ spread w (unpadded bs)
      padded [] is ih = unpadded-yes b [] is
      padded (c ∷ cs) is ih = ⊎_elim
          (λ newline. ap unpadded (spread_newline w b c cs newline) ∙ unpadded-yes b (w ++ spread w (c ∷ cs)) is ∙ unpadded-past w (spread w (c ∷ cs)) (all-padding w blank) ∙ ih)
          (λ other. ap unpadded (spread_other w b c cs other) ∙ unpadded-yes b (spread w (c ∷ cs)) is ∙ ih)
          (cases_Bool (nat_eq b 10))

  pub unpadded-after_each : (t : List ℕ) → unpadded (after_each w t) ≡ after_each w (unpadded t)
  unpadded-after_each [] = refl
  unpadded-after_each (b ∷ bs) = ⊎_elim
      (λ yes. ⊎_elim
      (λ newline. ap unpadded (after_each_newline w b bs newline) ∙ unpadded-yes b (w ++ after_each w bs) yes ∙ unpadded-past w (after_each w bs) (all-padding w blank))
      (λ other. ap unpadded (after_each_other w b bs other) ∙ unpadded-yes b (after_each w bs) yes)
      (cases_Bool (nat_eq b 10))
      ∙ unpadded-after_each bs ∙ ap (after_each w) (sym (unpadded-yes b bs yes)))
      (λ no. ap unpadded (after_each_other w b bs (no_newline b no)) ∙ unpadded-no b (after_each w bs) no ∙ sym (after_each_other w b bs (no_newline b no)) ∙ ap (after_each w) (sym (unpadded-no b bs no)))
      (cases_Bool (is_padding b))

  end-more : (xs : List ℕ) (b : ℕ) → unpadded_end (after_each w xs) ≡ after_each w (unpadded_end xs) → unpadded_end (after_each w (xs ++ b ∷ [])) ≡ after_each w (unpadded_end (xs ++ b ∷ []))
  end-more xs b ih = ap unpadded_end (after_each-append w xs (b ∷ [])) ∙ ⊎_elim
      (λ yes. ⊎_elim
      (λ newline. ap (λ l. unpadded_end (after_each w xs ++ l)) (after_each_newline w b [] newline) ∙ end-past (b ∷ (w ++ [])) (after_each w xs) (yes, subst (AllAre is_padding) (sym (append-nil w)) (all-padding w blank)))
      (λ other. ap (λ l. unpadded_end (after_each w xs ++ l)) (after_each_other w b [] other) ∙ end-yes (after_each w xs) b yes)
      (cases_Bool (nat_eq b 10))
      ∙ ih ∙ ap (after_each w) (sym (end-yes xs b yes)))
      (λ no.
      let alone : after_each w (b ∷ []) ≡ b ∷ [] = after_each_other w b [] (no_newline b no) in
      ap (λ l. unpadded_end (after_each w xs ++ l)) alone ∙ end-no (after_each w xs) b no ∙ ap (λ l. after_each w xs ++ l) (sym alone)
      ∙ sym (after_each-append w xs (b ∷ [])) ∙ ap (after_each w) (sym (end-no xs b no)))
      (cases_Bool (is_padding b))

  end-reversed : (xs : List ℕ) → unpadded_end (after_each w (reverse xs)) ≡ after_each w (unpadded_end (reverse xs))
  end-reversed [] = refl
  end-reversed (b ∷ bs) =
      let Same : List ℕ → Type 0 = λ l. unpadded_end (after_each w l) ≡ after_each w (unpadded_end l) in
      subst Same (sym (reverse-append (b ∷ []) bs)) (end-more (reverse bs) b (end-reversed bs))

  end-after_each : (xs : List ℕ) → unpadded_end (after_each w xs) ≡ after_each w (unpadded_end xs)
  end-after_each xs = let Same : List ℕ → Type 0 = λ l. unpadded_end (after_each w l) ≡ after_each w (unpadded_end l) in subst Same (reverse-reverse xs) (end-reversed (reverse xs))

  -- and so is what stands between padding
  pub stripped-after_each : (t : List ℕ) → stripped (after_each w t) ≡ after_each w (stripped t)
  stripped-after_each t = ap unpadded_end (unpadded-after_each t) ∙ end-after_each (unpadded t)
