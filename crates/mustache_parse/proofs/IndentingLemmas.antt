-- The pieces of an indented text, and whether it has a tree.
use Rattle.std.proofs.Common.{◌≡◌, ℕ, Bool, true, false, List, [], ◌∷◌, ◌++◌, nat_eq, Option, Some, None, Ok, refl, sym, ap, subst, ◌∙◌, arith, append-nil, ⊎_elim}
use Rattle.std.proofs.lemmas.Bool.{cases_Bool}
use Rattle.mustache_scan.specs.Cutting.{cut, is_blank, stripped}
use Rattle.mustache_scan.specs.Names.{braces}
use Rattle.mustache_scan.specs.Reading.{Opened, tag_after, wrong_inside, Piece, Pieces, with_pieces, literal, ends_here, after_tag, after_opening, after_cut, reading}
use Rattle.mustache_scan.specs.Standalone.{is_literal, placed, tokens_of, outcome, scanned}
use Rattle.mustache_scan.specs.declared.fault.FaultKind.{FaultKind}
use Rattle.mustache_scan.specs.declared.fault.FaultKind.TheVariants.{UnclosedTag}
use Rattle.mustache_scan.proofs.TagLemmas.{at_cut, braces_open}
use Rattle.mustache_parse.specs.Indent.{indented}
use Rattle.mustache_parse.specs.Indenting.{spread, with_bytes, spread_inner, spread_last, spread_pieces, with_front, indented_pieces, IndentsPieces, HasTree, KeepsTrees, NothingToIndent}
use Rattle.mustache_parse.specs.Tree.{Tree, tree_of_scanned, tree_of}
use Rattle.mustache_parse.proofs.IndentLemmas.{AllAre, behind_all, past_blanks, behind_all-none, behind_all-some, indented-spread, spread_newline, spread_other}
use Rattle.mustache_parse.proofs.MarkLemmas.{mark_onto, piece_marks, nests-alike, marks-of_tokens}
use Rattle.mustache_parse.proofs.SpreadLemmas.{all-are}
use Rattle.mustache_parse.proofs.SpreadNameLemmas.{Solid}
use Rattle.mustache_parse.proofs.SpreadTagLemmas.{tag_kind}
use Rattle.mustache_parse.proofs.SpreadReadingLemmas.{literal_piece, reading-spread}

-- a reading with `w` in front
abbrev fronted : List ℕ → Pieces → Pieces
fronted w r = record { pieces = with_front w r.pieces; wrong = r.wrong }

blanks_literal : (w : List ℕ) (b : ℕ) (bs : List ℕ) → literal (w ++ b ∷ bs) ≡ literal_piece (w ++ b ∷ bs) ∷ []
blanks_literal [] b bs = refl
blanks_literal (x ∷ w) b bs = refl

module _ (w : List ℕ) where
  front-last : (s : List ℕ) → literal (w ++ s) ++ [] ≡ with_front w (literal s ++ [])
  front-last [] = append-nil (literal (w ++ [])) ∙ ap literal (append-nil w)
  front-last (b ∷ bs) = ap (λ ps. ps ++ []) (blanks_literal w b bs)

  front-tag : (c : Bool) (p : Piece) (ps : List Piece) → c ≡ false → literal (w ++ []) ++ p ∷ ps ≡ elim c [ true ↦ with_bytes (w ++ p.bytes) p ∷ ps | false ↦ literal w ++ p ∷ ps ]
  front-tag true p ps h = absurd (cc)
  front-tag false p ps h = ap (λ l. literal l ++ p ∷ ps) (append-nil w)

  -- what begins with a tag has `w` before it as a literal
  front-none : (kind : FaultKind) → with_pieces (literal (w ++ [])) (ends_here (Some kind)) ≡ fronted w (ends_here (Some kind))
  front-none kind = ap (λ ps. record { pieces = ps; wrong = Some kind }) (append-nil (literal (w ++ [])) ∙ ap literal (append-nil w))

  front-fault : (after : List ℕ) (o : Opened) (f : Option FaultKind) → is_literal o.kind ≡ false
      → with_pieces (literal (w ++ [])) (after_tag reading braces after o f) ≡ fronted w (after_tag reading braces after o f)
  front-fault after o (Some kind) tag = front-none kind
  front-fault after o None tag = ap (λ ps. record { pieces = ps; wrong = (after_tag reading braces after o None).wrong }) (front-tag (is_literal o.kind) _ _ tag)

  front-opening : (after : List ℕ) (r : Option Opened) → tag_after braces.closing after ≡ r → with_pieces (literal (w ++ [])) (after_opening reading braces after r) ≡ fronted w (after_opening reading braces after r)
  front-opening after None is = front-none UnclosedTag
  front-opening after (Some o) is = front-fault after o (wrong_inside o.kind (stripped o.inside)) (tag_kind braces.closing after o is)

  front-before : (before after : List ℕ) → with_pieces (literal (w ++ before)) (after_opening reading braces after (tag_after braces.closing after))
      ≡ fronted w (with_pieces (literal before) (after_opening reading braces after (tag_after braces.closing after)))
  front-before [] after = front-opening after (tag_after braces.closing after) refl
  front-before (b ∷ bs) after = ap (λ ps. with_pieces ps (after_opening reading braces after (tag_after braces.closing after))) (blanks_literal w b bs)

  front-cut : (s : List ℕ) (r : Option (List ℕ × List ℕ)) → after_cut reading braces (w ++ s) (behind_all w r) ≡ fronted w (after_cut reading braces s r)
  front-cut s None = ap (after_cut reading braces (w ++ s)) (behind_all-none w) ∙ ap (λ ps. record { pieces = ps; wrong = None }) (front-last s)
  front-cut s (Some (before, after)) = ap (after_cut reading braces (w ++ s)) (behind_all-some w before after) ∙ front-before before after

  reading-front : (s : List ℕ) → AllAre is_blank w → reading braces (w ++ s) ≡ fronted w (reading braces s)
  reading-front s blank =
      at_cut braces (w ++ s) (behind_all w (cut braces.opening s)) braces_open (past_blanks 123 (123 ∷ []) w s refl blank)
      ∙ front-cut s (cut braces.opening s) ∙ ap (fronted w) (sym (at_cut braces s (cut braces.opening s) braces_open refl))

braces_solid : Solid braces
braces_solid = record { opens = braces_open; closes = braces_open; opening = (refl, (refl, tt)); closing = (refl, (refl, tt)) }

pub indents-pieces : IndentsPieces
indents-pieces w [] blank some = absurd (omega arith)
indents-pieces w (b ∷ bs) blank some =
    let all = all-are is_blank w blank in
    ap (reading braces) (indented-spread w b bs) ∙ reading-front w (spread w (b ∷ bs)) all ∙ ap (fronted w) (reading-spread w all braces (b ∷ bs) braces_solid)

-- no tag is another
no_marks : (w : List ℕ) (ps : List Piece) → piece_marks (literal w ++ ps) ≡ piece_marks ps
no_marks [] ps = refl
no_marks (b ∷ w) ps = refl

front-marks : (w : List ℕ) (ps : List Piece) → piece_marks (with_front w ps) ≡ piece_marks ps
front-marks w [] = ap piece_marks (sym (append-nil (literal w))) ∙ no_marks w []
front-marks w (p ∷ ps) = chosen (is_literal p.kind)
  where
    chosen : (c : Bool) → piece_marks (elim c [ true ↦ with_bytes (w ++ p.bytes) p ∷ ps | false ↦ literal w ++ p ∷ ps ]) ≡ piece_marks (p ∷ ps)
    chosen true = refl
    chosen false = no_marks w (p ∷ ps)

inner-marks : (w : List ℕ) (ps : List Piece) → piece_marks (spread_inner w ps) ≡ piece_marks ps
inner-marks w [] = refl
inner-marks w (p ∷ ps) = ap (mark_onto p.kind p.inside) (inner-marks w ps)

last-marks : (w : List ℕ) (ps : List Piece) → piece_marks (spread_last w ps) ≡ piece_marks ps
last-marks w [] = refl
last-marks w (p ∷ []) = refl
last-marks w (p ∷ q ∷ ps) = ap (mark_onto p.kind p.inside) (last-marks w (q ∷ ps))

spread-marks : (w : List ℕ) (f : Option FaultKind) (ps : List Piece) → piece_marks (spread_pieces w f ps) ≡ piece_marks ps
spread-marks w None ps = last-marks w ps
spread-marks w (Some kind) ps = inner-marks w ps

-- texts with the same tags and the same fault of reading have trees alike
tree_read : (t : List ℕ) → tree_of t ≡ tree_of_scanned (outcome t (reading braces t) (reading braces t).wrong)
unfolding tree_of scanned
tree_read t = refl

same-outcome : (t u : List ℕ) (r s : Pieces) (f : Option FaultKind) (tree : Tree) → piece_marks r.pieces ≡ piece_marks s.pieces → tree_of_scanned (outcome t r f) ≡ Ok tree → (other : Tree) × (tree_of_scanned (outcome u s f) ≡ Ok other)
same-outcome t u r s None tree same h =
    nests-alike (tokens_of t (placed 0 r.pieces)) (tokens_of u (placed 0 s.pieces)) tree (marks-of_tokens t 0 r.pieces ∙ same ∙ sym (marks-of_tokens u 0 s.pieces)) h
same-outcome t u r s (Some kind) tree same h = absurd (cc)

alike : (t u : List ℕ) → piece_marks (reading braces t).pieces ≡ piece_marks (reading braces u).pieces → (reading braces t).wrong ≡ (reading braces u).wrong → HasTree t → HasTree u
alike t u tags wrong has =
    let found = same-outcome t u (reading braces t) (reading braces u) (reading braces t).wrong has.0 tags (sym (tree_read t) ∙ has.1) in
    (found.0, tree_read u ∙ ap (λ f. tree_of_scanned (outcome u (reading braces u) f)) (sym wrong) ∙ found.1)

-- a text without bytes has no line
no_lines : (w : List ℕ) → indented w [] ≡ []
unfolding indented
no_lines w = refl

spread-nothing : (t : List ℕ) → spread [] t ≡ t
spread-nothing [] = refl
spread-nothing (b ∷ []) = refl
spread-nothing (b ∷ c ∷ bs) = ⊎_elim (λ newline. spread_newline [] b c bs newline) (λ other. spread_other [] b c bs other) (cases_Bool (nat_eq b 10)) ∙ ap (λ l. b ∷ l) (spread-nothing (c ∷ bs))

indented-nothing : (t : List ℕ) → indented [] t ≡ t
indented-nothing [] = no_lines []
indented-nothing (b ∷ bs) = indented-spread [] b bs ∙ spread-nothing (b ∷ bs)

pub nothing-to_indent : NothingToIndent
nothing-to_indent t = (indented-nothing t, no_lines t)

pub keeps-trees : KeepsTrees
keeps-trees w [] blank = (λ has. subst HasTree (sym (no_lines w)) has, λ has. subst HasTree (no_lines w) has)
keeps-trees w (b ∷ bs) blank =
    let t = b ∷ bs in
    let read : reading braces (indented w t) ≡ indented_pieces w (reading braces t) = indents-pieces w t blank (omega arith) in
    let wrong : (reading braces (indented w t)).wrong ≡ (reading braces t).wrong = ap (λ (r : Pieces). r.wrong) read in
    let tags : piece_marks (reading braces (indented w t)).pieces ≡ piece_marks (reading braces t).pieces =
    ap (λ (r : Pieces). piece_marks r.pieces) read ∙ front-marks w (spread_pieces w (reading braces t).wrong (reading braces t).pieces) ∙ spread-marks w (reading braces t).wrong (reading braces t).pieces in
    (alike t (indented w t) (sym tags) (sym wrong), alike (indented w t) t tags wrong)
