-- The levels of a literal and a tag, as they stand and under a margin.
use Rattle.std.proofs.Common.{◌≡◌, ℕ, Bool, true, false, not, List, [], ◌∷◌, ◌++◌, refl, sym, ap, ◌∙◌}
use Rattle.std.proofs.lemmas.Bool.{false≢true}
use Rattle.mustache_scan.specs.Progress.{literal_at}
use Rattle.mustache_scan.specs.Standalone.{TokenSeen, is_literal, is_alone}
use Rattle.mustache_scan.specs.declared.token.TokenKind.{TokenKind}
use Rattle.mustache_scan.specs.declared.token.TokenKind.TheVariants.{Literal, Variable, Raw, Section, Inverted, End, Comment, Partial, Delimiters}
use Rattle.mustache_parse.specs.Margin.{literal_under, text_onto, Marked, marked, tag_under, goes_on, with_marked, levels_under}
use Rattle.mustache_parse.specs.Tree.{nothing, text, variable, raw, partial, section, inverted, Levels, last, up_to_end, onto, closing, with_token, levels}
use Rattle.mustache_parse.proofs.MarginTextLemmas.{no_lines}

onto-none : (ls : Levels) → onto (text_onto []) ls ≡ ls
onto-none (last nodes) = refl
onto-none (up_to_end nodes more) = refl

onto-some : (b : ℕ) (bs : List ℕ) (ls : Levels) → onto (text (b ∷ bs)) ls ≡ onto (text_onto (b ∷ bs)) ls
onto-some b bs (last nodes) = refl
onto-some b bs (up_to_end nodes more) = refl

pub levels-literal : (at : ℕ) (l : List ℕ) (ts : List TokenSeen) → levels (literal_at at l ++ ts) ≡ onto (text_onto l) (levels ts)
levels-literal at [] ts = sym (onto-none (levels ts))
levels-literal at (b ∷ bs) ts = onto-some b bs (levels ts)

nothing-under : (w : List ℕ) (trails : Bool) → literal_under w false trails [] ≡ []
nothing-under w true = refl
nothing-under w false = refl

pub with-tag : (w : List ℕ) (leads trails : Bool) (m : Marked) (kind : TokenKind) (ls : Levels) → is_literal kind ≡ false
    → with_marked w leads trails m kind ls ≡ onto (text_onto (literal_under w leads (not m.is_alone) [])) (with_token (tag_under w m) kind ls)
with-tag w leads trails m Literal ls tag = absurd (false≢true (sym tag))
with-tag w leads trails m _ ls tag = refl

module _ (w t : List ℕ) (leads : Bool) where
  abbrev mark : TokenSeen → Marked
  mark x = record { token = x; is_alone = is_alone t x }

  -- a literal and the tag after it
  pub chunk-levels : (at : ℕ) (l : List ℕ) (x : TokenSeen) (ts : List TokenSeen) → is_literal x.kind ≡ false
      → levels_under w leads (marked t (literal_at at l ++ x ∷ ts)) ≡ onto (text_onto (literal_under w leads (not (is_alone t x)) l)) (with_token (tag_under w (mark x)) x.kind (levels_under w (is_alone t x) (marked t ts)))
  chunk-levels at [] x ts tag = with-tag w leads (goes_on (marked t ts)) (mark x) x.kind (levels_under w (is_alone t x) (marked t ts)) tag
  chunk-levels at (b ∷ bs) x ts tag =
      let ls = levels_under w (is_alone t x) (marked t ts) in
      let f = text_onto (literal_under w leads (not (is_alone t x)) (b ∷ bs)) in
      ap (onto f)
      (with-tag w false (goes_on (marked t ts)) (mark x) x.kind ls tag ∙ ap (λ l. onto (text_onto l) (with_token (tag_under w (mark x)) x.kind ls)) (nothing-under w (not (is_alone t x)))
      ∙ onto-none (with_token (tag_under w (mark x)) x.kind ls))

  none-at_end : (b : Bool) → literal_under w b false [] ≡ []
  none-at_end true = no_lines w
  none-at_end false = refl

  -- a literal at the end
  pub end-levels : (at : ℕ) (l : List ℕ) → levels_under w leads (marked t (literal_at at l)) ≡ onto (text_onto (literal_under w leads false l)) (last nothing)
  end-levels at [] = ap (λ l. onto (text_onto l) (last nothing)) (sym (none-at_end leads))
  end-levels at (b ∷ bs) = refl

-- a tag is known by its kind, its name and its indentation
pub tag-levels : (x y : TokenSeen) (kind : TokenKind) (ls : Levels) → is_literal kind ≡ false → x.inside ≡ y.inside → (kind ≡ Partial → x.indent ≡ y.indent) → with_token x kind ls ≡ with_token y kind ls
tag-levels x y Literal ls tag inside indent = absurd (false≢true (sym tag))
tag-levels x y Variable ls tag inside indent = ap (λ l. onto (variable l) ls) inside
tag-levels x y Raw ls tag inside indent = ap (λ l. onto (raw l) ls) inside
tag-levels x y Section ls tag inside indent = ap (λ l. closing (section l) ls) inside
tag-levels x y Inverted ls tag inside indent = ap (λ l. closing (inverted l) ls) inside
tag-levels x y End ls tag inside indent = refl
tag-levels x y Comment ls tag inside indent = refl
tag-levels x y Partial ls tag inside indent = ap (λ l. onto (partial l x.indent) ls) inside ∙ ap (λ l. onto (partial y.inside l) ls) (indent refl)
tag-levels x y Delimiters ls tag inside indent = refl
