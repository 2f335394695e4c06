-- One more token that says whether it is standalone.
use Rattle.std.proofs.Common.{◌≡◌, ℕ, ◌+◌, ◌≤◌, List, [], ◌∷◌, ◌++◌, length, Option, Some, None, is_some, refl, ap, ◌∙◌, slice_range, arith}
use Rattle.std.specs.Option.{unwrap_or}
use Rattle.mustache_scan.specs.Marks.{AreMarked}
use Rattle.mustache_scan.specs.Progress.{standalone_of, lines_or, taken}
use Rattle.mustache_scan.specs.Standalone.{is_alone}
use Rattle.mustache_scan.specs.View.{token_view}
use Rattle.mustache_scan.specs.declared.token.Token.{Token}
use Rattle.mustache_scan.specs.declared.token.TokenKind.{TokenKind}
use Rattle.mustache_scan.proofs.ProgressLemmas.{length-slice}

pub marks-push : (t : List ℕ) (xs : List Token) (x : Token) → x.is_alone ≡ is_alone t (token_view x) → AreMarked t xs → AreMarked t (xs ++ x ∷ [])
marks-push t [] x is h = (is, tt)
marks-push t (y ∷ ys) x is h = (h.0, marks-push t ys x is h.1)

-- the mark of a tag from place to place
pub tag-mark : (t : List ℕ) (kind : TokenKind) (place past : ℕ) (text : List ℕ) (lines : Option (ℕ × ℕ)) → place ≤ past → past ≤ length t → text ≡ slice_range t place past → lines ≡ standalone_of t kind place past
    → is_some lines ≡ is_some (standalone_of t kind place (place + length text))
tag-mark t kind place past text lines order within is found =
    let e : past ≡ place + length text = omega (arith, ap length is, length-slice t place past within) in
    ap is_some found ∙ ap (λ n. is_some (standalone_of t kind place n)) e

or-lines : (first past : ℕ) (r : Option (ℕ × ℕ)) → unwrap_or r (first, past) ≡ lines_or first past r
or-lines first past None = refl
or-lines first past (Some l) = refl

-- what a tag takes, by its lines
pub takes-lines : (t : List ℕ) (kind : TokenKind) (first past : ℕ) (r : Option (ℕ × ℕ)) (part : ℕ × ℕ) → part ≡ unwrap_or r (first, past) → r ≡ standalone_of t kind first past → part ≡ taken t kind first past
takes-lines t kind first past r part is found = is ∙ or-lines first past r ∙ ap (lines_or first past) found
