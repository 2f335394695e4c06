-- The blanks before a standalone partial, from the text to the tree.
use Rattle.std.proofs.Common.{◌≡◌, ℕ, zero, suc, ◌+◌, ◌-◌, ◌≤◌, Bool, true, false, not, List, [], ◌∷◌, ◌++◌, length, take, drop, Option, Some, None, Result, Ok, Err, refl, sym, ap, subst, ◌∙◌, arith, length-take, length-drop}
use Rattle.std.proofs.lemmas.List.{drop-take}
use Rattle.std.proofs.lemmas.List.Sums.{suffix_len-le-length}
use Rattle.std.specs.List.{list_all, suffix_len, flat_map}
use Rattle.mustache_scan.specs.Cutting.{is_blank, is_newline}
use Rattle.mustache_scan.specs.Names.{braces}
use Rattle.mustache_scan.specs.Reading.{Piece, Pieces, reading}
use Rattle.mustache_scan.specs.Standalone.{TokenSeen, last_line, lines_from, standalone_lines, may_be_standalone, blanks_before, indent_of, is_literal, kept, literal_of, tag_token, tokens_at, tokens_of, placed, outcome, scanned}
use Rattle.mustache_scan.specs.declared.fault.FaultKind.{FaultKind}
use Rattle.mustache_scan.specs.declared.fault.TemplateFault.{TemplateFault}
use Rattle.mustache_scan.specs.declared.token.TokenKind.{TokenKind}
use Rattle.mustache_scan.specs.declared.token.TokenKind.TheVariants.{Literal, Variable, Raw, Section, Inverted, End, Comment, Partial, Delimiters}
use Rattle.mustache_parse.specs.BlankIndents.{HasBlankIndents, IndentsAreBlank}
use Rattle.mustache_parse.specs.Indenting.{AreBlank}
use Rattle.mustache_parse.specs.Tree.{Tree, text, variable, raw, partial, section, inverted, Open, Levels, last, up_to_end, onto, closing, with_token, levels, first_level, open_after, left_open, unless, tree_of_scanned, tree_of}
use Rattle.mustache_parse.proofs.IndentLemmas.{both}
use Rattle.mustache_parse.proofs.MarkLemmas.{tree_if}

-- what ends a text that passes, passes
all-drop : (p : ℕ → Bool) (xs : List ℕ) (n m : ℕ) → n ≤ m → list_all p (drop n xs) ≡ true → list_all p (drop m xs) ≡ true
all-drop p [] n zero le h = refl
all-drop p [] n (suc m) le h = refl
all-drop p (x ∷ xs) zero zero le h = h
all-drop p (x ∷ xs) zero (suc m) le h = all-drop p xs zero m (omega arith) (both (p x) (list_all p xs) h).1
all-drop p (x ∷ xs) (suc n) zero le h = absurd (omega arith)
all-drop p (x ∷ xs) (suc n) (suc m) le h = all-drop p xs n m (omega arith) h

module _ (t : List ℕ) (first : ℕ) where
  before : List ℕ
  before = last_line (take first t)

  -- what stands on the line before a place, counted from the line's start
  line_before : list_all is_blank before ≡ true → list_all is_blank (take (first - (first - length before)) (drop (first - length before) t)) ≡ true
  unfolding before
  line_before blank =
      let x = take first t in
      let s = suffix_len (λ b. not (is_newline b)) x in
      let le : s ≤ length x = suffix_len-le-length (λ b. not (is_newline b)) x in
      let long : length before ≡ s = omega (arith, length-drop (length x - s) x) in
      let start = first - length before in
      let there : start + (first - start) ≡ first = omega arith in
      let later : length x - s ≤ start = omega (arith, length-take first t) in
      subst (λ l. list_all is_blank l ≡ true) (ap (λ n. drop start (take n t)) (sym there) ∙ drop-take start (first - start) t) (all-drop is_blank x (length x - s) start later blank)

  standalone-blank : (past : ℕ) (o : Option ℕ) → list_all is_blank before ≡ true → AreBlank (blanks_before first t (lines_from (first - length before) past o))
  standalone-blank past None blank = refl
  standalone-blank past (Some n) blank = line_before blank

  chosen-blank : (c : Bool) (past : ℕ) (o : Option ℕ) → list_all is_blank before ≡ c → AreBlank (blanks_before first t (elim c [ true ↦ lines_from (first - length before) past o | false ↦ None ]))
  chosen-blank true past o is = standalone-blank past o is
  chosen-blank false past o is = refl

  lines-blank : (past : ℕ) → AreBlank (blanks_before first t (standalone_lines t first past))
  unfolding before
  lines-blank past = chosen-blank (list_all is_blank before) _ _ refl

may-blank : (t : List ℕ) (at past : ℕ) (c : Bool) → AreBlank (blanks_before at t (elim c [ true ↦ standalone_lines t at past | false ↦ None ]))
may-blank t at past true = lines-blank t at past
may-blank t at past false = refl

indent-blank : (t : List ℕ) (p : ℕ × Piece) (kind : TokenKind) → AreBlank (indent_of t p kind)
indent-blank t p Partial = may-blank t p.0 (p.0 + length p.1.bytes) (may_be_standalone p.1.kind)
indent-blank t p _ = refl

-- tokens that are indented by blanks alone
abbrev AreIndented : List TokenSeen → Type 0
AreIndented [] = Unit {0}
AreIndented (t ∷ ts) = AreBlank t.indent × AreIndented ts

indented-append : (ts us : List TokenSeen) → AreIndented ts → AreIndented us → AreIndented (ts ++ us)
indented-append [] us h k = k
indented-append (t ∷ ts) us h k = (h.0, indented-append ts us h.1 k)

literal-indented : (xs : List (ℕ × ℕ)) → AreIndented (literal_of xs)
literal-indented [] = tt
literal-indented (x ∷ xs) = (refl, tt)

piece-indented : (t : List ℕ) (lines : List (ℕ × ℕ)) (p : ℕ × Piece) (c : Bool) → AreIndented (elim c [ true ↦ literal_of (kept lines p.0 p.1.bytes) | false ↦ tag_token t p ∷ [] ])
piece-indented t lines p true = literal-indented (kept lines p.0 p.1.bytes)
piece-indented t lines p false = (indent-blank t p p.1.kind, tt)

tokens-indented : (t : List ℕ) (lines : List (ℕ × ℕ)) (ps : List (ℕ × Piece)) → AreIndented (flat_map (tokens_at t lines) ps)
tokens-indented t lines [] = tt
tokens-indented t lines (p ∷ ps) = indented-append (tokens_at t lines p) _ (piece-indented t lines p (is_literal p.1.kind)) (tokens-indented t lines ps)

-- levels of trees whose partials are
abbrev AreBlankLevels : Levels → Type 0
AreBlankLevels (last nodes) = HasBlankIndents nodes
AreBlankLevels (up_to_end nodes more) = HasBlankIndents nodes × AreBlankLevels more

onto-blank : (f : Tree → Tree) (ls : Levels) → ((tree : Tree) → HasBlankIndents tree → HasBlankIndents (f tree)) → AreBlankLevels ls → AreBlankLevels (onto f ls)
onto-blank f (last nodes) keeps h = keeps nodes h
onto-blank f (up_to_end nodes more) keeps h = (keeps nodes h.0, h.1)

closing-blank : (make : Tree → Tree → Tree) (ls : Levels) → ((block rest : Tree) → HasBlankIndents block → HasBlankIndents rest → HasBlankIndents (make block rest)) → AreBlankLevels ls → AreBlankLevels (closing make ls)
closing-blank make (last nodes) keeps h = h
closing-blank make (up_to_end nodes more) keeps h = onto-blank (make nodes) more (λ rest k. keeps nodes rest h.0 k) h.1

with-blank : (t : TokenSeen) (kind : TokenKind) (ls : Levels) → AreBlank t.indent → AreBlankLevels ls → AreBlankLevels (with_token t kind ls)
with-blank t Literal ls blank h = onto-blank (text t.text) ls (λ tree k. k) h
with-blank t Variable ls blank h = onto-blank (variable t.inside) ls (λ tree k. k) h
with-blank t Raw ls blank h = onto-blank (raw t.inside) ls (λ tree k. k) h
with-blank t Section ls blank h = closing-blank (section t.inside) ls (λ block rest k l. (k, l)) h
with-blank t Inverted ls blank h = closing-blank (inverted t.inside) ls (λ block rest k l. (k, l)) h
with-blank t End ls blank h = (tt, h)
with-blank t Partial ls blank h = onto-blank (partial t.inside t.indent) ls (λ tree k. (blank, k)) h
with-blank t Comment ls blank h = h
with-blank t Delimiters ls blank h = h

levels-blank : (ts : List TokenSeen) → AreIndented ts → AreBlankLevels (levels ts)
levels-blank [] h = tt
levels-blank (t ∷ ts) h = with-blank t t.kind (levels ts) h.0 (levels-blank ts h.1)

first-blank : (ls : Levels) → AreBlankLevels ls → HasBlankIndents (first_level ls)
first-blank (last nodes) h = h
first-blank (up_to_end nodes more) h = h.0

unless-blank : (o : Option TemplateFault) (x tree : Tree) → unless o x ≡ Ok tree → HasBlankIndents x → HasBlankIndents tree
unless-blank None x tree h blank = let e : x ≡ tree = cc in subst HasBlankIndents e blank
unless-blank (Some f) x tree h blank = absurd (cc)

nested-blank : (r : Result (List Open) TemplateFault) (x tree : Tree) → tree_if x r ≡ Ok tree → HasBlankIndents x → HasBlankIndents tree
nested-blank (Ok above) x tree h blank = unless-blank (left_open above) x tree h blank
nested-blank (Err f) x tree h blank = absurd (cc)

outcome-blank : (t : List ℕ) (r : Pieces) (f : Option FaultKind) (tree : Tree) → tree_of_scanned (outcome t r f) ≡ Ok tree → HasBlankIndents tree
outcome-blank t r None tree h =
    let ts = tokens_of t (placed 0 r.pieces) in
    nested-blank (open_after [] ts) (first_level (levels ts)) tree h (first-blank (levels ts) (levels-blank ts (tokens-indented t _ (placed 0 r.pieces))))
outcome-blank t r (Some kind) tree h = absurd (cc)

pub indents-blank : IndentsAreBlank
unfolding tree_of scanned
indents-blank t tree h = outcome-blank t (reading braces t) (reading braces t).wrong tree h
