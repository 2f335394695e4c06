-- What a tag takes of its text, beside the lines that cover it; and what a tag begins with.
use Rattle.std.proofs.Common.{◌≡◌, ℕ, ◌-◌, ◌<◌, ◌≤◌, Bool, true, false, not, ◌&&◌, ◌||◌, ◌==◌, if◌then◌else◌, List, [], ◌∷◌, ◌++◌, length, get_or, take, drop, nat_lt, nat_le, Option, Some, None, refl, sym, ap, subst, ◌∙◌, arith, ⊎_elim, slice_range}
use Rattle.std.proofs.lemmas.Bool.{cases_Bool, false≢true}
use Rattle.std.proofs.lemmas.Bool.Decides.{nat_tests}
use Rattle.std.specs.List.{list_any, cons_option}
use Rattle.mustache_scan.specs.Cutting.{cut, is_blank, is_padding}
use Rattle.mustache_scan.specs.Names.{is_empty, is_sequence}
use Rattle.mustache_scan.specs.Progress.{standalone_of, lines_or, taken, indent_in}
use Rattle.mustache_scan.specs.Reading.{Opened, opened_as, signed, tag_in, tag_after, kind_of_sign, partner, Piece}
use Rattle.mustache_scan.specs.Cutting.{unpadded}
use Rattle.mustache_scan.specs.Standalone.{standalone, is_covered, is_literal, blanks_before, indent_of}
use Rattle.mustache_scan.specs.declared.token.TokenKind.{TokenKind}
use Rattle.mustache_scan.specs.declared.token.TokenKind.TheVariants.{Variable, Raw, Section, Inverted, End, Comment, Partial, Delimiters}
use Rattle.mustache_scan.proofs.KeptLemmas.{lt_true, lt_false, le_true, le_false}
use Rattle.mustache_scan.proofs.StandaloneLemmas.{standalone_of_lines, starts_before, ends_after, reaches_back}
use Rattle.mustache_scan.proofs.ProgressLemmas.{AreLater}

-- a sequence begins with a byte that is not blank
and_false : (b : Bool) → (b && false) ≡ false
and_false true = refl
and_false false = refl

blank_padding : (b : ℕ) → is_blank b ≡ true → is_padding b ≡ true
blank_padding b h = grind (arith, nat_tests)

barred : (b : ℕ) (bs : List ℕ) → is_blank b ≡ true → is_sequence (b ∷ bs) ≡ false
barred b bs h =
    ap (λ c. not (is_empty (b ∷ bs)) && not ((c || b == 61) || list_any (λ b. is_padding b || b == 61) bs)) (blank_padding b h) ∙ and_false (not (is_empty (b ∷ bs)))

pub first_no_blank : (s : List ℕ) → is_sequence s ≡ true → is_blank (get_or s 0 0) ≡ false
first_no_blank [] h = absurd (false≢true h)
first_no_blank (b ∷ bs) h = ⊎_elim (λ yes. absurd (false≢true (sym (barred b bs yes) ∙ h))) (λ no. no) (cases_Bool (is_blank b))

pub sequence_opens : (s : List ℕ) → is_sequence s ≡ true → 0 < length s
sequence_opens [] h = absurd (false≢true h)
sequence_opens (b ∷ bs) h = omega arith

-- a tag is no literal
module _ (kind : TokenKind) where
  chosen : (c : Bool) (k : TokenKind) (others : Option TokenKind) → is_literal k ≡ false → (others ≡ Some kind → is_literal kind ≡ false) → (if c then Some k else others) ≡ Some kind → is_literal kind ≡ false
  chosen true k others here there h = let e : k ≡ kind = cc in subst (λ k. is_literal k ≡ false) e here
  chosen false k others here there h = there h

  none : None ≡ Some kind → is_literal kind ≡ false
  none h = absurd (cc)

  pub sign_no_literal : (b : ℕ) → kind_of_sign b ≡ Some kind → is_literal kind ≡ false
  sign_no_literal b = chosen _ Raw _ refl (chosen _ Section _ refl (chosen _ Inverted _ refl (chosen _ End _ refl (chosen _ Comment _ refl (chosen _ Partial _ refl (chosen _ Delimiters _ refl none))))))

opened_kind : (kind : TokenKind) (r : Option (List ℕ × List ℕ)) (o : Opened) → opened_as kind r ≡ Some o → kind ≡ o.kind
opened_kind kind None o h = absurd (cc)
opened_kind kind (Some (inside, rest)) o h = let e : record { kind = kind; inside = inside; rest = rest } ≡ o = cc in ap (λ (o : Opened). o.kind) e

signed_no_literal : (closing : List ℕ) (b : ℕ) (bs : List ℕ) (k : Option TokenKind) (o : Opened) → kind_of_sign b ≡ k → signed closing b bs k ≡ Some o → is_literal o.kind ≡ false
signed_no_literal closing b bs (Some kind) o is h = subst (λ k. is_literal k ≡ false) (opened_kind kind (cut (partner b ++ closing) bs) o h) (sign_no_literal kind b is)
signed_no_literal closing b bs None o is h = subst (λ k. is_literal k ≡ false) (opened_kind Variable (cut closing (b ∷ bs)) o h) refl

in_no_literal : (closing t : List ℕ) (o : Opened) → tag_in closing t ≡ Some o → is_literal o.kind ≡ false
in_no_literal closing [] o h = absurd (cc)
in_no_literal closing (b ∷ bs) o h = signed_no_literal closing b bs (kind_of_sign b) o refl h

pub after_no_literal : (closing t : List ℕ) (o : Opened) → tag_after closing t ≡ Some o → is_literal o.kind ≡ false
after_no_literal closing t o h = in_no_literal closing (unpadded t) o h

-- the lines of one tag, as a list
abbrev pub one : Option (ℕ × ℕ) → List (ℕ × ℕ)
one r = cons_option r []

pub or_false : (b : Bool) → (b || false) ≡ b
or_false true = refl
or_false false = refl

true_or_false : (b : Bool) → ((b && true) || false) ≡ b
true_or_false true = refl
true_or_false false = refl

-- what a tag takes, beside the lines that cover its text
module _ (t : List ℕ) (kind : TokenKind) (first past : ℕ) (order : first < past) (within : past ≤ length t) where
  pub one_after : (r : Option (ℕ × ℕ)) → standalone_of t kind first past ≡ r → (k : ℕ) → past ≤ k → is_covered (one r) k ≡ nat_lt k (lines_or first past r).1
  one_after None is k le = sym (lt_false k past le)
  one_after (Some l) is k le =
      let begins : l.0 ≤ first = starts_before t first past l (omega arith) within (standalone_of_lines t kind first past l is) in
      ap (λ c. (c && nat_lt k l.1) || false) (le_true l.0 k (omega arith)) ∙ or_false (nat_lt k l.1)

  pub one_before : (r : Option (ℕ × ℕ)) → standalone_of t kind first past ≡ r → (k : ℕ) → k < first → is_covered (one r) k ≡ nat_le (lines_or first past r).0 k
  one_before None is k lt = sym (le_false first k lt)
  one_before (Some l) is k lt =
      let ends : past ≤ l.1 = ends_after t first past l (omega arith) within (standalone_of_lines t kind first past l is) in
      ap (λ c. (nat_le l.0 k && c) || false) (lt_true k l.1 (omega arith)) ∙ true_or_false (nat_le l.0 k)

  pub one_later : (r : Option (ℕ × ℕ)) → standalone_of t kind first past ≡ r → (at : ℕ) → at ≤ first → AreLater t at (one r)
  one_later None is at le w k lt other back = refl
  one_later (Some l) is at le w k lt other back =
      let begins : w < l.0 = reaches_back t first past l (omega arith) within (standalone_of_lines t kind first past l is) w (omega arith) other in
      ap (λ c. (c && nat_lt k l.1) || false) (le_false l.0 k (omega arith))

  indent_lines : (r : Option (ℕ × ℕ)) → blanks_before first t r ≡ slice_range t (lines_or first past r).0 first
  indent_lines None = let e : 0 ≡ first - first = omega arith in ap (λ n. take n (drop first t)) e
  indent_lines (Some l) = refl

  pub indent_same : (p : Piece) (k : TokenKind) → standalone t (first, p) ≡ standalone_of t kind first past → indent_of t (first, p) k ≡ indent_in t k (taken t kind first past).0 first
  indent_same p Partial is = ap (blanks_before first t) is ∙ indent_lines (standalone_of t kind first past)
  indent_same p _ is = refl
