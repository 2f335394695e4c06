-- The reading of a text with `w` after the newlines that don't end it: the same pieces, with `w` after theirs.
use Rattle.std.proofs.Common.{◌≡◌, ℕ, zero, suc, ◌+◌, ◌<◌, ◌≤◌, List, [], ◌∷◌, ◌++◌, length, nat_eq, ⊎_elim, Option, Some, None, refl, sym, ap, subst, ◌∙◌, arith, append-nil}
use Rattle.std.proofs.lemmas.Bool.{cases_Bool}
use Rattle.mustache_scan.specs.Cutting.{cut, is_blank, stripped}
use Rattle.mustache_scan.specs.Names.{Pair}
use Rattle.mustache_scan.specs.Reading.{Opened, tag_after, wrong_inside, delimiters_after, Piece, Pieces, with_pieces, literal, tag, ends_here, after_tag, after_opening, after_cut, reading}
use Rattle.mustache_scan.specs.declared.fault.FaultKind.{FaultKind}
use Rattle.mustache_scan.specs.declared.fault.FaultKind.TheVariants.{UnclosedTag}
use Rattle.mustache_scan.specs.declared.token.TokenKind.TheVariants.{Literal}
use Rattle.mustache_scan.proofs.ReadingLemmas.{cut_lengths, tag_after_rest}
use Rattle.mustache_scan.proofs.TagLemmas.{at_cut}
use Rattle.mustache_parse.specs.Indenting.{spread, after_each, with_bytes, spread_inner, spread_last, spread_pieces}
use Rattle.mustache_parse.proofs.IndentLemmas.{AllAre, moved, after_each_newline, after_each_other}
use Rattle.mustache_parse.proofs.SpreadLemmas.{stripped-after_each}
use Rattle.mustache_parse.proofs.SpreadNameLemmas.{Solid, wrong_inside-same, delimiters_after-same, after-solid}
use Rattle.mustache_parse.proofs.SpreadTagLemmas.{spread_tag, spread_opened, spread-head, cut-solid, tag_after-spread, tag-end, tag-spread}

-- a reading with `w` after the newlines of its pieces
abbrev pub spread_read : List ℕ → Pieces → Pieces
spread_read w r = record { pieces = spread_pieces w r.wrong r.pieces; wrong = r.wrong }

abbrev pub literal_piece : List ℕ → Piece
literal_piece bytes = record { kind = Literal; inside = []; bytes = bytes }

pub some_literal : (l : List ℕ) (b : ℕ) (x : List ℕ) → l ≡ b ∷ x → literal l ≡ literal_piece l ∷ []
some_literal l b x is = subst (λ l. literal l ≡ literal_piece l ∷ []) (sym is) refl

-- a text keeps its first byte
each-head : (w : List ℕ) (b : ℕ) (bs : List ℕ) → (x : List ℕ) × (after_each w (b ∷ bs) ≡ b ∷ x)
each-head w b bs = ⊎_elim (λ newline. (w ++ after_each w bs, after_each_newline w b bs newline)) (λ other. (after_each w bs, after_each_other w b bs other)) (cases_Bool (nat_eq b 10))

literal-each : (w before : List ℕ) → literal (after_each w before) ≡ spread_inner w (literal before)
literal-each w [] = refl
literal-each w (b ∷ bs) = let head = each-head w b bs in some_literal (after_each w (b ∷ bs)) b head.0 head.1

literal-last : (w t : List ℕ) → literal (spread w t) ≡ spread_last w (literal t)
literal-last w [] = refl
literal-last w (b ∷ bs) = let head = spread-head w b bs in some_literal (spread w (b ∷ bs)) b head.0 head.1

-- pieces that others follow
inner-append : (w : List ℕ) (ps qs : List Piece) → spread_inner w (ps ++ qs) ≡ spread_inner w ps ++ spread_inner w qs
inner-append w [] qs = refl
inner-append w (p ∷ ps) qs = ap (λ l. with_bytes (after_each w p.bytes) p ∷ l) (inner-append w ps qs)

before-piece : (w : List ℕ) (wrong : Option FaultKind) (before : List ℕ) (p : Piece) (ps : List Piece)
    → spread_pieces w wrong (literal before ++ p ∷ ps) ≡ literal (after_each w before) ++ spread_pieces w wrong (p ∷ ps)
before-piece w None [] p ps = refl
before-piece w None (b ∷ bs) p ps = ap (λ l. l ++ spread_last w (p ∷ ps)) (sym (literal-each w (b ∷ bs)))
before-piece w (Some kind) before p ps = inner-append w (literal before) (p ∷ ps) ∙ ap (λ l. l ++ spread_inner w (p ∷ ps)) (sym (literal-each w before))

tag-piece : (w : List ℕ) (wrong : Option FaultKind) (p : Piece) (ps : List Piece) → spread w p.bytes ≡ after_each w p.bytes
    → spread_pieces w wrong (p ∷ ps) ≡ spread_inner w (p ∷ []) ++ spread_pieces w wrong ps
tag-piece w None p [] same = ap (λ bytes. with_bytes bytes p ∷ []) same
tag-piece w None p (q ∷ ps) same = refl
tag-piece w (Some kind) p ps same = refl

-- a literal before a fault
faulty : (w before : List ℕ) (kind : FaultKind) → with_pieces (literal (after_each w before)) (ends_here (Some kind)) ≡ spread_read w (with_pieces (literal before) (ends_here (Some kind)))
faulty w before kind =
    ap (λ ps. record { pieces = ps; wrong = Some kind }) (append-nil (literal (after_each w before)) ∙ literal-each w before ∙ ap (spread_inner w) (sym (append-nil (literal before))))

-- a literal, a tag and what follows
joined : (w before : List ℕ) (p : Piece) (r : Pieces) → spread w p.bytes ≡ after_each w p.bytes
    → with_pieces (literal (after_each w before)) (with_pieces (spread_inner w (p ∷ [])) (spread_read w r)) ≡ spread_read w (with_pieces (literal before) (with_pieces (p ∷ []) r))
joined w before p r same =
    ap (λ ps. record { pieces = ps; wrong = r.wrong }) (ap (λ ps. literal (after_each w before) ++ ps) (sym (tag-piece w r.wrong p r.pieces same)) ∙ sym (before-piece w r.wrong before p r.pieces))

module _ (w : List ℕ) (blank : AllAre is_blank w) (d : Pair) (solid : Solid d) where
  -- the reading of what follows a tag, by that of its rest
  module _ (before after : List ℕ) (o : Opened) (is : tag_after d.closing after ≡ Some o) (shorter : (e : Pair) → Solid e → reading e (spread w o.rest) ≡ spread_read w (reading e o.rest)) where
    by_fault : (f : Option FaultKind) → wrong_inside o.kind (stripped o.inside) ≡ f
        → with_pieces (literal (after_each w before)) (after_tag reading d (spread w after) (spread_tag w o) f) ≡ spread_read w (with_pieces (literal before) (after_tag reading d after o f))
    by_fault (Some kind) good = faulty w before kind
    by_fault None good =
        let strips = stripped-after_each w blank o.inside in
        let e = delimiters_after d o.kind (stripped o.inside) in
        let next : delimiters_after d o.kind (stripped (after_each w o.inside)) ≡ e = ap (delimiters_after d o.kind) strips ∙ delimiters_after-same w blank d o.kind (stripped o.inside) in
        ap (λ e'. with_pieces (literal (after_each w before)) (with_pieces (tag d.opening (spread w after) (spread_tag w o)) (reading e' (spread w o.rest)))) next
        ∙ ap (λ r. with_pieces (literal (after_each w before)) (with_pieces (tag d.opening (spread w after) (spread_tag w o)) r)) (shorter e (after-solid d o.kind (stripped o.inside) solid))
        ∙ ap (λ ps. with_pieces (literal (after_each w before)) (with_pieces ps (spread_read w (reading e o.rest)))) (tag-spread w d.opening d.closing after o solid.opening solid.closes solid.closing is strips good)
        ∙ joined w before _ (reading e o.rest) (tag-end w d.opening d.closing after o solid.opening solid.closes solid.closing is)

    by_tag : with_pieces (literal (after_each w before)) (after_opening reading d (spread w after) (Some (spread_tag w o))) ≡ spread_read w (with_pieces (literal before) (after_opening reading d after (Some o)))
    by_tag =
        ap (λ f. with_pieces (literal (after_each w before)) (after_tag reading d (spread w after) (spread_tag w o) f)) (ap (wrong_inside o.kind) (stripped-after_each w blank o.inside) ∙ wrong_inside-same w blank o.kind (stripped o.inside))
        ∙ by_fault (wrong_inside o.kind (stripped o.inside)) refl

  by_opening : (before after : List ℕ) (r : Option Opened) → tag_after d.closing after ≡ r → ((e : Pair) (u : List ℕ) → Solid e → length u ≤ length after → reading e (spread w u) ≡ spread_read w (reading e u))
      → with_pieces (literal (after_each w before)) (after_opening reading d (spread w after) (spread_opened w r)) ≡ spread_read w (with_pieces (literal before) (after_opening reading d after r))
  by_opening before after None is shorter = faulty w before UnclosedTag
  by_opening before after (Some o) is shorter = by_tag before after o is (λ e solid'. shorter e o.rest solid' (tag_after_rest d.closing after o is))

  by_cut : (t : List ℕ) (r : Option (List ℕ × List ℕ)) → cut d.opening t ≡ r → ((e : Pair) (u : List ℕ) → Solid e → length u < length t → reading e (spread w u) ≡ spread_read w (reading e u))
      → after_cut reading d (spread w t) (moved w r) ≡ spread_read w (after_cut reading d t r)
  by_cut t None is shorter = ap (λ ps. record { pieces = ps; wrong = None }) (append-nil (literal (spread w t)) ∙ literal-last w t ∙ ap (spread_last w) (sym (append-nil (literal t))))
  by_cut t (Some (before, after)) is shorter =
      let some = solid.opens in
      let l : length t ≡ length before + (length d.opening + length after) = cut_lengths d.opening t (before, after) is in
      ap (λ r. with_pieces (literal (after_each w before)) (after_opening reading d (spread w after) r)) (tag_after-spread w blank d.closing solid.closes solid.closing after)
      ∙ by_opening before after (tag_after d.closing after) refl (λ e u solid' le. shorter e u solid' (omega arith))

  step : (t : List ℕ) → ((e : Pair) (u : List ℕ) → Solid e → length u < length t → reading e (spread w u) ≡ spread_read w (reading e u)) → reading d (spread w t) ≡ spread_read w (reading d t)
  step t shorter =
      at_cut d (spread w t) (moved w (cut d.opening t)) solid.opens (cut-solid w blank d.opening t solid.opens solid.opening)
      ∙ by_cut t (cut d.opening t) refl shorter ∙ ap (spread_read w) (sym (at_cut d t (cut d.opening t) solid.opens refl))

within : (w : List ℕ) → AllAre is_blank w → (n : ℕ) (d : Pair) (t : List ℕ) → Solid d → length t < n → reading d (spread w t) ≡ spread_read w (reading d t)
within w blank zero d t solid l = absurd (omega arith)
within w blank (suc n) d t solid l = step w blank d solid t (λ e u solid' less. within w blank n e u solid' (omega arith))

pub reading-spread : (w : List ℕ) → AllAre is_blank w → (d : Pair) (t : List ℕ) → Solid d → reading d (spread w t) ≡ spread_read w (reading d t)
reading-spread w blank d t solid = within w blank (length t + 1) d t solid (omega arith)
