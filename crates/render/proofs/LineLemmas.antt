-- A literal under a margin, line by line.
use Rattle.std.proofs.Common.{◌≡◌, ◌≢◌, ℕ, ◌<◌, suc, Bool, true, false, not, ◌&&◌, ◌||◌, ◌==◌, List, [], ◌∷◌, ◌++◌, length, get_or, nat_eq, Option, Some, None, Bor, MatchOption, IfSome, refl, sym, ap, ◌∙◌, arith, length-append, append_assoc, ⊎_elim}
use Rattle.std.proofs.lemmas.Bool.{cases_Bool}
use Rattle.std.proofs.lemmas.Bool.Decides.{nat_tests}
use Rattle.mustache_parse.specs.Indent.{indented}
use Rattle.mustache_parse.specs.Indenting.{spread, after_each}
use Rattle.mustache_parse.specs.Margin.{literal_under}
use Rattle.mustache_parse.proofs.IndentLemmas.{NoneAre, after_each_newline, after_each_other, spread_newline}
use Rattle.mustache_parse.proofs.IndentingLemmas.{nothing-to_indent}
use Rattle.mustache_parse.proofs.MarginLineLemmas.{after_each-plain, spread-none}
use Rattle.mustache_parse.proofs.MarginTextLemmas.{indented-some, no_lines}
use Rattle.mustache_parse.proofs.SpreadLemmas.{after_each-append, spread-before}
use Rattle.mustache_scan.specs.Cutting.{is_newline}
use Rattle.render.specs.Margin.{lead}
use Rattle.render.specs.Meaning.{Costs, and_then, prints}

differs : (a : ℕ) → a ≢ 10 → nat_eq a 10 ≡ false
differs a h = grind (arith, nat_tests)

abbrev NoNewline : List ℕ → Type 0
NoNewline t = (i : ℕ) → i < length t → get_or t i 0 ≢ 10

none-are : (t : List ℕ) → NoNewline t → NoneAre is_newline t
none-are [] h = tt
none-are (b ∷ bs) h = (differs b (h 0 (omega arith)), none-are bs (λ i l. h (suc i) (omega arith)))

abbrev pub Cuts : List ℕ → Option (Bor (List ℕ) × Bor (List ℕ)) → Type 0
Cuts bs r = MatchOption r ((i : ℕ) → i < length bs → get_or bs i 0 ≢ 10) (λ x. (bs ≡ x.0.now ++ (10 ∷ x.1.now)) × ((i : ℕ) → i < length x.0.now → get_or x.0.now i 0 ≢ 10))

-- a text of one line
one-line : (w t : List ℕ) (leads trails : Bool) → NoneAre is_newline t → literal_under w leads trails t ≡ lead w (leads && (trails || not (length t == 0))) ++ t
one-line w t true true none = ap (λ l. w ++ l) (after_each-plain w t none)
one-line w [] true false none = no_lines w
one-line w (b ∷ bs) true false none = indented-some w (b ∷ bs) (omega arith) ∙ ap (λ l. w ++ l) (spread-none w (b ∷ bs) none) ∙ some-lead w b bs
  where
    some-lead : (w : List ℕ) (b : ℕ) (bs : List ℕ) → w ++ b ∷ bs ≡ lead w (not (length (b ∷ bs) == 0)) ++ b ∷ bs
    some-lead w b bs = let other : (length (b ∷ bs) == 0) ≡ false = grind (arith, nat_tests) in ap (λ c. lead w (not c) ++ b ∷ bs) (sym other)
one-line w t false true none = after_each-plain w t none
one-line w t false false none = spread-none w t none

each-line : (w line after : List ℕ) → NoneAre is_newline line → after_each w (line ++ 10 ∷ after) ≡ line ++ 10 ∷ (w ++ after_each w after)
each-line w line after none = after_each-append w line (10 ∷ after) ∙ ap (λ l. l ++ after_each w (10 ∷ after)) (after_each-plain w line none) ∙ ap (λ l. line ++ l) (after_each_newline w 10 after refl)

spread-line : (w line after : List ℕ) → NoneAre is_newline line → spread w (line ++ 10 ∷ after) ≡ line ++ 10 ∷ indented w after
spread-line w line [] none = spread-before w line 10 [] ∙ ap (λ l. l ++ 10 ∷ []) (after_each-plain w line none) ∙ ap (λ l. line ++ 10 ∷ l) (sym (no_lines w))
spread-line w line (b ∷ bs) none =
    spread-before w line 10 (b ∷ bs) ∙ ap (λ l. l ++ spread w (10 ∷ b ∷ bs)) (after_each-plain w line none) ∙ ap (λ l. line ++ l) (spread_newline w 10 b bs refl)
    ∙ ap (λ l. line ++ 10 ∷ l) (sym (indented-some w (b ∷ bs) (omega arith)))

-- a line, and what follows its newline
line-on : (w line after : List ℕ) (leads trails : Bool) → NoneAre is_newline line → literal_under w leads trails (line ++ 10 ∷ after) ≡ (lead w leads ++ line) ++ 10 ∷ literal_under w true trails after
line-on w line after true true none = ap (λ l. w ++ l) (each-line w line after none) ∙ sym (append_assoc w line (10 ∷ (w ++ after_each w after)))
line-on w line after true false none =
    indented-some w (line ++ 10 ∷ after) (omega (arith, length-append line (10 ∷ after))) ∙ ap (λ l. w ++ l) (spread-line w line after none) ∙ sym (append_assoc w line (10 ∷ indented w after))
line-on w line after false true none = each-line w line after none
line-on w line after false false none = spread-line w line after none

pub cut_line : (t : List ℕ) (r : Option (Bor (List ℕ) × Bor (List ℕ))) → Cuts t r
    → MatchOption r
    ((w : List ℕ) (leads trails : Bool) → literal_under w leads trails t ≡ lead w (leads && (trails || not (length t == 0))) ++ t)
    (λ x. (w : List ℕ) (leads trails : Bool) → literal_under w leads trails t ≡ (lead w leads ++ x.0.now) ++ 10 ∷ literal_under w true trails x.1.now)
cut_line t None h = λ w leads trails. one-line w t leads trails (none-are t h)
cut_line t (Some x) h = λ w leads trails. ap (literal_under w leads trails) h.0 ∙ line-on w x.0.now x.1.now leads trails (none-are x.0.now h.1)

pub cut_shorter : (t : List ℕ) (r : Option (Bor (List ℕ) × Bor (List ℕ))) → Cuts t r → IfSome r (λ x. length x.1.now < length t)
cut_shorter t None h = tt
cut_shorter t (Some x) h = let e = ap length h.0 ∙ length-append x.0.now (10 ∷ x.1.now) in omega (arith, e)

-- texts printed one after another
pub prints-both : (a b : List ℕ) → prints (a ++ b) ≡ and_then (prints a) (prints b)
prints-both a b = ap (Costs (a ++ b)) (length-append a b)

-- without a margin a text stands as it is
pub no-margin : (w t : List ℕ) (leads trails : Bool) → w ≡ [] → literal_under w leads trails t ≡ t
no-margin w t leads trails none = ap (λ w. literal_under w leads trails t) none ∙ by_case leads trails
  where
    each : (t : List ℕ) → after_each [] t ≡ t
    each [] = refl
    each (b ∷ bs) = ⊎_elim (λ newline. after_each_newline [] b bs newline) (λ other. after_each_other [] b bs other) (cases_Bool (nat_eq b 10)) ∙ ap (λ l. b ∷ l) (each bs)

    spreads : (t : List ℕ) → spread [] t ≡ t
    spreads [] = refl
    spreads (b ∷ bs) = sym (indented-some [] (b ∷ bs) (omega arith)) ∙ (nothing-to_indent (b ∷ bs)).0

    by_case : (leads trails : Bool) → literal_under [] leads trails t ≡ t
    by_case true true = each t
    by_case true false = (nothing-to_indent t).0
    by_case false true = each t
    by_case false false = spreads t
