-- Texts under a margin, cut where their lines begin and after their tags.
use Rattle.std.proofs.Common.{◌≡◌, ℕ, ◌<◌, ◌≤◌, Bool, true, false, List, [], ◌∷◌, ◌++◌, length, nat_eq, ◌⊎◌, inl, inr, refl, sym, ap, subst, ◌∙◌, arith, append_assoc, append-nil, length-append}
use Rattle.mustache_scan.specs.Cutting.{is_padding}
use Rattle.mustache_parse.specs.Indent.{indented}
use Rattle.mustache_parse.specs.Indenting.{spread, after_each}
use Rattle.mustache_parse.specs.Margin.{literal_under}
use Rattle.mustache_parse.proofs.IndentLemmas.{indented-spread, after_each_newline, after_each_other}
use Rattle.mustache_parse.proofs.SpreadLemmas.{spread-plain, after_each-append, spread-before, no_newline}

-- a text with more after it on its last line, once it is indented
abbrev pub open_under : List ℕ → List ℕ → List ℕ
open_under w a = w ++ after_each w a

-- a text that a line ends, or nothing
abbrev pub IsLineStart : List ℕ → Type 0
IsLineStart a = (a ≡ []) ⊎ ((y : List ℕ) × (a ≡ y ++ 10 ∷ []))

-- where a literal may begin in a text, with `v` after: where a line begins, at the end, or after a tag
abbrev pub Seam : Bool → List ℕ → List ℕ → Type 0
Seam true a v = IsLineStart a ⊎ (v ≡ [])
Seam false a v = (y : List ℕ) × (c : ℕ) × (a ≡ y ++ c ∷ []) × (is_padding c ≡ false)

abbrev pub front_under : List ℕ → Bool → List ℕ → List ℕ
front_under w true a = indented w a
front_under w false a = open_under w a

pub no_lines : (w : List ℕ) → indented w [] ≡ []
unfolding indented
no_lines w = refl

-- one byte of a text, and what follows it
snoc : (y : List ℕ) (c : ℕ) (r : List ℕ) → (y ++ c ∷ []) ++ r ≡ y ++ c ∷ r
snoc y c r = append_assoc y (c ∷ []) r

module _ (w : List ℕ) where
  pub indented-some : (a : List ℕ) → 0 < length a → indented w a ≡ w ++ spread w a
  indented-some [] some = absurd (omega arith)
  indented-some (b ∷ bs) some = indented-spread w b bs

  some-snoc : (y : List ℕ) (c : ℕ) (r : List ℕ) → 0 < length (y ++ c ∷ r)
  some-snoc y c r = omega (arith, length-append y (c ∷ r))

  pub open-append : (a l : List ℕ) → open_under w (a ++ l) ≡ open_under w a ++ after_each w l
  open-append a l = ap (λ t. w ++ t) (after_each-append w a l) ∙ sym (append_assoc w (after_each w a) (after_each w l))

  -- a text that ends a line, and the margin of the next
  pub ended : (y : List ℕ) → indented w (y ++ 10 ∷ []) ≡ w ++ (after_each w y ++ 10 ∷ [])
  ended y = indented-some (y ++ 10 ∷ []) (some-snoc y 10 []) ∙ ap (λ t. w ++ t) (spread-before w y 10 [])

  one-newline : after_each w (10 ∷ []) ≡ 10 ∷ (w ++ [])
  one-newline = after_each_newline w 10 [] refl

  pub open-start : (a : List ℕ) → IsLineStart a → open_under w a ≡ indented w a ++ w
  open-start a (inl none) = ap (open_under w) none ∙ append-nil w ∙ ap (λ t. t ++ w) (sym (ap (indented w) none ∙ no_lines w))
  open-start a (inr (y, is)) =
      ap (open_under w) is ∙ open-append y (10 ∷ []) ∙ ap (λ t. open_under w y ++ t) (one-newline ∙ ap (λ t. 10 ∷ t) (append-nil w))
      ∙ sym (append_assoc (open_under w y) (10 ∷ []) w)
      ∙ ap (λ t. t ++ w) (append_assoc w (after_each w y) (10 ∷ []) ∙ sym (ended y) ∙ ap (indented w) (sym is))

  -- what ends after a byte that is no newline
  pub spread-seam : (y : List ℕ) (c : ℕ) (r : List ℕ) → nat_eq c 10 ≡ false → spread w ((y ++ c ∷ []) ++ r) ≡ after_each w (y ++ c ∷ []) ++ spread w r
  spread-seam y c r plain =
      ap (spread w) (snoc y c r) ∙ spread-before w y c r ∙ ap (λ t. after_each w y ++ t) (spread-plain w c r plain)
      ∙ sym (append_assoc (after_each w y) (c ∷ []) (spread w r))
      ∙ ap (λ t. t ++ spread w r) (ap (λ t. after_each w y ++ t) (sym (after_each_other w c [] plain)) ∙ sym (after_each-append w y (c ∷ [])))

  pub indented-seam : (y : List ℕ) (c : ℕ) (r : List ℕ) → nat_eq c 10 ≡ false → indented w ((y ++ c ∷ []) ++ r) ≡ open_under w (y ++ c ∷ []) ++ spread w r
  indented-seam y c r plain =
      indented-some ((y ++ c ∷ []) ++ r) (subst (λ t. 0 < length t) (sym (snoc y c r)) (some-snoc y c r)) ∙ ap (λ t. w ++ t) (spread-seam y c r plain)
      ∙ sym (append_assoc w (after_each w (y ++ c ∷ [])) (spread w r))

  -- lines after lines
  lines-on : (a l : List ℕ) → IsLineStart a → indented w (a ++ l) ≡ indented w a ++ indented w l
  lines-on a [] start = ap (indented w) (append-nil a) ∙ sym (append-nil (indented w a)) ∙ ap (λ t. indented w a ++ t) (sym (no_lines w))
  lines-on a (b ∷ bs) (inl none) = ap (λ a. indented w (a ++ b ∷ bs)) none ∙ ap (λ t. t ++ indented w (b ∷ bs)) (sym (ap (indented w) none ∙ no_lines w))
  lines-on a (b ∷ bs) (inr (y, is)) =
      let start : open_under w a ≡ indented w a ++ w = open-start a (inr (y, is)) in
      indented-some (a ++ b ∷ bs) (omega (arith, length-append a (b ∷ bs))) ∙ ap (λ t. w ++ t) (spread-before w a b bs)
      ∙ sym (append_assoc w (after_each w a) (spread w (b ∷ bs))) ∙ ap (λ t. t ++ spread w (b ∷ bs)) start
      ∙ append_assoc (indented w a) w (spread w (b ∷ bs)) ∙ ap (λ t. indented w a ++ t) (sym (indented-spread w b bs))

  -- A literal that a tag follows which isn't standalone.
  pub goes-on : (leads : Bool) (a l v : List ℕ) → Seam leads a v → 0 < length v → open_under w (a ++ l) ≡ front_under w leads a ++ literal_under w leads true l
  goes-on true a l v (inl start) some = open-append a l ∙ ap (λ t. t ++ after_each w l) (open-start a start) ∙ append_assoc (indented w a) w (after_each w l)
  goes-on true a l v (inr none) some = absurd (omega (arith, ap length none))
  goes-on false a l v seam some = open-append a l

  -- A literal up to the end of a line.
  pub ends : (leads : Bool) (a l v : List ℕ) → Seam leads a v → length l ≤ length v → indented w (a ++ l) ≡ front_under w leads a ++ literal_under w leads false l
  ends true a l v (inl start) fits = lines-on a l start
  ends true a [] v (inr none) fits = ap (indented w) (append-nil a) ∙ sym (append-nil (indented w a)) ∙ ap (λ t. indented w a ++ t) (sym (no_lines w))
  ends true a (b ∷ bs) v (inr none) fits = absurd (omega (arith, ap length none))
  ends false a l v (y, c, is, solid) fits = ap (λ a. indented w (a ++ l)) is ∙ indented-seam y c l (no_newline c solid) ∙ ap (λ a. open_under w a ++ spread w l) (sym is)
