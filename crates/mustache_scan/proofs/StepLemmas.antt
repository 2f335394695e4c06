-- One step of the scan: the literal up to the next tag, and that tag with what it takes.
use Rattle.std.proofs.Common.{◌≡◌, ℕ, ◌+◌, ◌-◌, ◌<◌, ◌≤◌, true, false, ◌||◌, List, [], ◌∷◌, ◌++◌, length, get_or, take, drop, max, nat_lt, Option, Some, None, refl, sym, ap, subst, ◌∙◌, arith, ⊎_elim, append_assoc, append-nil, length-append, slice_range}
use Rattle.std.proofs.Math.Seq.{drop-append_seam, drop-append-add, take-append_seam}
use Rattle.std.proofs.lemmas.Bool.{cases_lt}
use Rattle.std.proofs.lemmas.Grind.{flat_map-append}
use Rattle.std.proofs.lemmas.List.{get_or-drop}
use Rattle.std.proofs.lemmas.List.Elements.{filter_map-append}
use Rattle.std.proofs.lemmas.Str.{IsCharBoundary-at_seam}
use Rattle.std.specs.List.{flat_map}
use Rattle.std.specs.Str.{IsUtf8, IsCharBoundary}
use Rattle.mustache_scan.specs.Cutting.{cut, is_blank, stripped}
use Rattle.mustache_scan.specs.Names.{Pair, braces, is_sequence}
use Rattle.mustache_scan.specs.Progress.{standalone_of, taken, literal_at, tag_at}
use Rattle.mustache_scan.specs.Reading.{Opened, tag_after, wrong_inside, name_of, delimiters_after, Piece, Pieces, with_pieces, literal, after_tag, after_opening, reading, text_of}
use Rattle.mustache_scan.specs.Slices.{AreSlices}
use Rattle.mustache_scan.specs.Standalone.{TokenSeen, placed, standalone, standalone_lines_of, is_covered, kept, literal_of, tag_token, indent_of, tokens_at}
use Rattle.mustache_scan.proofs.KeptLemmas.{TakesEnds}
use Rattle.mustache_scan.proofs.StandaloneLemmas.{taken_start, taken_end, taken_end_boundary}
use Rattle.mustache_scan.proofs.ProgressLemmas.{AreLater, end_of, IsReadTo, covered-append, later-append, placed-append, placed_from, text-append, literal_text, literal_lines, literal_between, before_max, slices-append, end-append, length-slice, literal_sliced}
use Rattle.mustache_scan.proofs.ReadingLemmas.{cut_parts}
use Rattle.mustache_scan.proofs.TagLemmas.{with-append, at_cut, ends-tag_after, before_end}
use Rattle.mustache_scan.proofs.TakenLemmas.{first_no_blank, sequence_opens, after_no_literal, one, one_after, one_before, one_later, indent_same, or_false}

front_read : (s u : List ℕ) → 0 < length s → get_or (s ++ u) 0 0 ≡ get_or s 0 0
front_read [] u some = absurd (omega arith)
front_read (b ∷ bs) u some = refl

max_boundary : (t : List ℕ) (a b : ℕ) → IsCharBoundary t a → IsCharBoundary t b → IsCharBoundary t (max a b)
max_boundary t a b h g = ⊎_elim
    (λ lt. let e : b ≡ max a b = omega arith in subst (λ n. IsCharBoundary t n) e g)
    (λ ge. let e : a ≡ max a b = omega arith in subst (λ n. IsCharBoundary t n) e h)
    (cases_lt a b)

module _ (t rest : List ℕ) (d : Pair) (from : ℕ) (xs : List TokenSeen) (so_far : IsReadTo t rest d from xs) (before after : List ℕ) (is : cut d.opening rest ≡ Some (before, after)) (opens : is_sequence d.opening ≡ true) where
  abbrev pub front : List ℕ
  front = text_of so_far.pieces

  -- the tag's place
  abbrev pub place : ℕ
  place = length front + length before

  whole : t ≡ front ++ (before ++ (d.opening ++ after))
  whole = sym so_far.text ∙ ap (λ l. front ++ l) (cut_parts d.opening rest (before, after) is)

  lengths : length t ≡ length front + (length before + (length d.opening + length after))
  lengths = ap length whole ∙ length-append front (before ++ (d.opening ++ after)) ∙ ap (λ n. length front + n) (length-append before (d.opening ++ after) ∙ ap (λ n. length before + n) (length-append d.opening after))

  from_place : drop place t ≡ d.opening ++ after
  from_place = ap (drop place) whole ∙ drop-append-add front (before ++ (d.opening ++ after)) (length before) ∙ drop-append_seam before (d.opening ++ after)

  no_blank_at : is_blank (get_or t place 0) ≡ false
  no_blank_at =
      let e : place + 0 ≡ place = omega arith in
      let read : get_or t place 0 ≡ get_or d.opening 0 0 =
      ap (λ n. get_or t n 0) (sym e) ∙ sym (get_or-drop place t 0 0) ∙ ap (λ l. get_or l 0 0) from_place ∙ front_read d.opening after (sequence_opens d.opening opens) in
      ap is_blank read ∙ first_no_blank d.opening opens

  pub reads_on : reading d rest ≡ with_pieces (literal before) (after_opening reading d after (tag_after d.closing after))
  reads_on = at_cut d rest (Some (before, after)) (sequence_opens d.opening opens) is

  module _ (o : Opened) (tag_is : tag_after d.closing after ≡ Some o) where
    abbrev pub past : ℕ
    past = length t - length o.rest

    abbrev pub body : List ℕ
    body = d.opening ++ take (length after - length o.rest) after

    abbrev pub piece : Piece
    piece = record { kind = o.kind; inside = name_of o.kind (stripped o.inside); bytes = body }

    body_is : body ++ o.rest ≡ d.opening ++ after
    body_is = append_assoc d.opening (take (length after - length o.rest) after) o.rest ∙ ap (λ l. d.opening ++ l) (before_end after o.rest (ends-tag_after d.closing after o tag_is))

    whole_tag : t ≡ front ++ (before ++ (body ++ o.rest))
    whole_tag = whole ∙ ap (λ l. front ++ (before ++ l)) (sym body_is)

    body_lengths : length body + length o.rest ≡ length d.opening + length after
    body_lengths = sym (length-append body o.rest) ∙ ap length body_is ∙ length-append d.opening after

    body_some : length d.opening ≤ length body
    body_some = omega (arith, length-append d.opening (take (length after - length o.rest) after))

    past_is : place + length body ≡ past
    past_is = omega (arith, lengths, body_lengths)

    pub order : place < past
    order = omega (arith, past_is, body_some, sequence_opens d.opening opens)

    pub within : past ≤ length t
    within = omega arith

    abbrev pub ps : List Piece
    ps = so_far.pieces ++ (literal before ++ piece ∷ [])

    ps_text : text_of ps ≡ front ++ (before ++ body)
    ps_text = text-append so_far.pieces (literal before ++ piece ∷ []) ∙ ap (λ l. front ++ l)
        (text-append (literal before) (piece ∷ []) ∙ ap (λ l. l ++ (body ++ [])) (literal_text before) ∙ ap (λ l. before ++ l) (append-nil body))

    pub text_is : text_of ps ++ o.rest ≡ t
    text_is = ap (λ l. l ++ o.rest) ps_text ∙ append_assoc front (before ++ body) o.rest ∙ ap (λ l. front ++ l) (append_assoc before body o.rest) ∙ sym whole_tag

    pub ps_length : length (text_of ps) ≡ past
    ps_length = omega (arith, ap length ps_text, length-append front (before ++ body), length-append before body, past_is)

    pub seam_after : IsUtf8 o.rest → IsCharBoundary t past
    seam_after u = subst (λ n. IsCharBoundary t n) ps_length (IsCharBoundary-at_seam t (text_of ps) o.rest (sym text_is) u)

    read_is : wrong_inside o.kind (stripped o.inside) ≡ None → with_pieces ps (reading (delimiters_after d o.kind (stripped o.inside)) o.rest) ≡ reading braces t
    read_is right =
        let more : Pieces = reading (delimiters_after d o.kind (stripped o.inside)) o.rest in
        let here : reading d rest ≡ with_pieces (literal before) (with_pieces (piece ∷ []) more) =
        reads_on ∙ ap (λ r. with_pieces (literal before) (after_opening reading d after r)) tag_is ∙ ap (λ w. with_pieces (literal before) (after_tag reading d after o w)) right in
        with-append so_far.pieces (literal before ++ piece ∷ []) more ∙ ap (with_pieces so_far.pieces) (with-append (literal before) (piece ∷ []) more ∙ sym here) ∙ so_far.read

    placed_ps : placed 0 ps ≡ placed 0 so_far.pieces ++ (placed (length front) (literal before) ++ (place, piece) ∷ [])
    placed_ps = placed_from so_far.pieces (literal before ++ piece ∷ []) ∙ ap (λ l. placed 0 so_far.pieces ++ l)
        (placed-append (length front) (literal before) (piece ∷ []) ∙ ap (λ l. placed (length front) (literal before) ++ placed (length front + length l) (piece ∷ [])) (literal_text before))

    abbrev pub found : Option (ℕ × ℕ)
    found = standalone_of t o.kind place past

    abbrev pub part : ℕ × ℕ
    part = taken t o.kind place past

    standalone_is : standalone t (place, piece) ≡ found
    standalone_is = ap (standalone_of t o.kind place) past_is

    abbrev lines : List (ℕ × ℕ)
    lines = standalone_lines_of t (placed 0 so_far.pieces)

    lines_ps : standalone_lines_of t (placed 0 ps) ≡ lines ++ one found
    lines_ps = ap (standalone_lines_of t) placed_ps ∙ filter_map-append (standalone t) (placed 0 so_far.pieces) (placed (length front) (literal before) ++ (place, piece) ∷ []) ∙ ap (λ l. lines ++ l)
        (filter_map-append (standalone t) (placed (length front) (literal before)) ((place, piece) ∷ []) ∙ ap (λ l. l ++ one (standalone t (place, piece))) (literal_lines t (length front) before) ∙ ap one standalone_is)

    covers_is : (k : ℕ) → length (text_of ps) ≤ k → is_covered (standalone_lines_of t (placed 0 ps)) k ≡ nat_lt k (max from part.1)
    covers_is k le =
        ap (λ l. is_covered l k) lines_ps ∙ covered-append lines (one found) k ∙ ap (λ c. c || is_covered (one found) k) (so_far.covers k (omega (arith, ps_length, order)))
        ∙ ap (λ c. nat_lt k from || c) (one_after t o.kind place past order within found refl k (omega (arith, ps_length))) ∙ before_max k from part.1

    text_part : body ≡ slice_range t place past
    text_part =
        let n : past - place ≡ length body = omega (arith, past_is) in
        sym (ap (take (past - place)) (from_place ∙ sym body_is) ∙ ap (λ n. take n (body ++ o.rest)) n ∙ take-append_seam body o.rest)

    tag_same : tag_token t (place, piece) ≡ tag_at t o.kind (stripped o.inside) place past
    tag_same =
        let seen : List ℕ → List ℕ → TokenSeen = λ (text indent : List ℕ). record { kind = o.kind; inside = name_of o.kind (stripped o.inside); place = place; text = text; indent = indent } in
        ap (λ l. seen l (indent_of t (place, piece) o.kind)) text_part ∙ ap (seen (slice_range t place past)) (indent_same t o.kind place past order within piece o.kind standalone_is)

    -- the tokens of the literal and of the tag
    abbrev pub added : List TokenSeen
    added = literal_at from (slice_range t from part.0) ++ tag_at t o.kind (stripped o.inside) place past ∷ []

    module _ (ls : List (ℕ × ℕ)) (later : AreLater t (length (text_of ps)) ls) where
      abbrev all : List (ℕ × ℕ)
      all = lines ++ (one found ++ ls)

      takes : TakesEnds all (length front) (length front + length before) from part.0
      takes k low high =
          let others : is_covered ls k ≡ false = later place k (omega (arith, ps_length, order)) no_blank_at (omega arith) in
          covered-append lines (one found ++ ls) k ∙ ap (λ c. c || is_covered (one found ++ ls) k) (so_far.covers k low)
          ∙ ap (λ c. nat_lt k from || c) (covered-append (one found) ls k ∙ ap (λ c. is_covered (one found) k || c) others ∙ or_false (is_covered (one found) k) ∙ one_before t o.kind place past order within found refl k high)

      literal_part : flat_map (tokens_at t all) (placed (length front) (literal before)) ≡ literal_at from (slice_range t from part.0)
      literal_part = literal_between t all front before (body ++ o.rest) from part.0 whole_tag so_far.past (taken_start t o.kind place past (omega (arith, order)) within) takes

      tag_part : flat_map (tokens_at t all) ((place, piece) ∷ []) ≡ tag_at t o.kind (stripped o.inside) place past ∷ []
      tag_part =
          ap (λ c. (elim c as (λ _. List TokenSeen) [ true ↦ literal_of (kept all place body) | false ↦ tag_token t (place, piece) ∷ [] ]) ++ []) (after_no_literal d.closing after o tag_is)
          ∙ ap (λ x. x ∷ []) tag_same

      settled_is : flat_map (tokens_at t (standalone_lines_of t (placed 0 ps) ++ ls)) (placed 0 ps) ≡ xs ++ added
      settled_is =
          let before_all : AreLater t (length front) (one found ++ ls) =
          later-append t (length front) (one found) ls (one_later t o.kind place past order within found refl (length front) (omega arith)) (λ w k lt. later w k (omega (arith, ps_length, order))) in
          ap (λ l. flat_map (tokens_at t l) (placed 0 ps)) (ap (λ l. l ++ ls) lines_ps ∙ append_assoc lines (one found) ls)
          ∙ ap (flat_map (tokens_at t all)) placed_ps
          ∙ flat_map-append (tokens_at t all) (placed 0 so_far.pieces) (placed (length front) (literal before) ++ (place, piece) ∷ [])
          ∙ ap (λ l. l ++ flat_map (tokens_at t all) (placed (length front) (literal before) ++ (place, piece) ∷ [])) (so_far.settled (one found ++ ls) before_all)
          ∙ ap (λ l. xs ++ l)
          (flat_map-append (tokens_at t all) (placed (length front) (literal before)) ((place, piece) ∷ [])
          ∙ ap (λ l. l ++ flat_map (tokens_at t all) ((place, piece) ∷ [])) literal_part
          ∙ ap (λ l. literal_at from (slice_range t from part.0) ++ l) tag_part)

    text_self : past ≡ place + length (slice_range t place past)
    text_self = omega (arith, length-slice t place past within, order)

    slices_is : AreSlices t 0 (xs ++ added)
    slices_is =
        let begins : part.0 ≤ place = taken_start t o.kind place past (omega (arith, order)) within in
        slices-append t 0 (length front) xs added so_far.slices so_far.ended
        (λ f le. literal_sliced t from part.0 place (tag_at t o.kind (stripped o.inside) place past ∷ []) f (omega (arith, within, order)) (omega (arith, so_far.past)) (omega arith) begins
        (λ g le'. (le', ap (slice_range t place) text_self, tt)))

    ended_is : end_of 0 (xs ++ added) ≤ length (text_of ps)
    ended_is = omega (arith, end-append 0 xs added, end-append (end_of 0 xs) (literal_at from (slice_range t from part.0)) (tag_at t o.kind (stripped o.inside) place past ∷ []), text_self, ps_length)

    pub goes_on : wrong_inside o.kind (stripped o.inside) ≡ None → IsReadTo t o.rest (delimiters_after d o.kind (stripped o.inside)) (max from part.1) (xs ++ added)
    goes_on right = record {
      pieces = ps;
      text = text_is;
      read = read_is right;
      covers = covers_is;
      settled = settled_is;
      past = omega (arith, ps_length, taken_end t o.kind place past (omega (arith, order)) within);
      slices = slices_is;
      ended = ended_is;
    }

    -- where a literal may begin after the tag
    pub next_seam : IsUtf8 t → IsCharBoundary t from → IsCharBoundary t past → IsCharBoundary t (max from part.1)
    next_seam u seam boundary = max_boundary t from part.1 seam (taken_end_boundary t o.kind place past (omega (arith, order)) within u boundary)
