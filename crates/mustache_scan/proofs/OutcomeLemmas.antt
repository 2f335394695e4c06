-- What a text read so far is scanned as: the fault of the next tag, its tokens at the end, or what the rest gives.
use Rattle.std.proofs.Common.{◌≡◌, ℕ, ◌+◌, ◌-◌, ◌<◌, ◌≤◌, true, ◌||◌, List, [], ◌∷◌, ◌++◌, length, drop, max, nat_lt, Option, Some, None, Ok, Err, refl, sym, ap, subst, ◌∙◌, arith, append-nil, length-append, slice_range}
use Rattle.std.proofs.Math.Seq.{drop-append_seam}
use Rattle.std.proofs.lemmas.Grind.{flat_map-append}
use Rattle.std.proofs.lemmas.List.Elements.{filter_map-append}
use Rattle.std.proofs.lemmas.Str.{IsCharBoundary-from_rest}
use Rattle.std.specs.List.{flat_map}
use Rattle.std.specs.Str.{IsUtf8, IsCharBoundary}
use Rattle.mustache_scan.specs.Cutting.{cut, stripped}
use Rattle.mustache_scan.specs.Names.{Pair, braces, is_sequence}
use Rattle.mustache_scan.specs.Progress.{taken, literal_at, tag_at, or_wrong, checked}
use Rattle.mustache_scan.specs.Reading.{Opened, tag_after, wrong_inside, delimiters_after, Pieces, with_pieces, literal, ends_here, after_tag, after_opening, reading, text_of}
use Rattle.mustache_scan.specs.Slices.{AreSlices}
use Rattle.mustache_scan.specs.Standalone.{TokenSeen, placed, standalone, standalone_lines_of, is_covered, tokens_at, tokens_of, outcome, scanned}
use Rattle.mustache_scan.specs.declared.fault.FaultKind.{FaultKind}
use Rattle.mustache_scan.specs.declared.fault.FaultKind.TheVariants.{UnclosedTag}
use Rattle.mustache_scan.proofs.KeptLemmas.{TakesEnds, lt_false, le_false}
use Rattle.mustache_scan.proofs.ProgressLemmas.{IsReadTo, covered-append, placed_from, text-append, literal_text, literal_lines, literal_between, slices-append, literal_sliced}
use Rattle.mustache_scan.proofs.StepLemmas.{place, reads_on, order, seam_after, goes_on, next_seam}
use Rattle.mustache_scan.proofs.TagLemmas.{at_cut}
use Rattle.mustache_scan.proofs.TakenLemmas.{sequence_opens}

scanned_is : (t : List ℕ) → scanned t ≡ outcome t (reading braces t) (reading braces t).wrong
unfolding scanned
scanned_is t = refl

-- nothing is read at first
pub begins : (t : List ℕ) → IsReadTo t t braces 0 []
begins t = record {
  pieces = [];
  text = refl;
  read = refl;
  covers = λ k le. sym (lt_false k 0 (omega arith));
  settled = λ ls later. refl;
  past = omega arith;
  slices = tt;
  ended = omega arith;
}

-- a tag that is right, without the padding round its inside
record IsRight (r : Option Opened) (v : Opened) : Type 0 where
  pub tag : Opened
  pub opened : r ≡ Some tag
  pub right : wrong_inside tag.kind (stripped tag.inside) ≡ None
  pub same : record { kind = tag.kind; inside = stripped tag.inside; rest = tag.rest } ≡ v

right_by : (o v : Opened) (w : Option FaultKind) → wrong_inside o.kind (stripped o.inside) ≡ w → or_wrong (record { kind = o.kind; inside = stripped o.inside; rest = o.rest }) w ≡ Ok v → IsRight (Some o) v
right_by o v None is h = record { tag = o; opened = refl; right = is; same = cc }
right_by o v (Some w) is h = absurd (cc)

is_right : (r : Option Opened) (v : Opened) → checked r ≡ Ok v → IsRight r v
is_right None v h = absurd (cc)
is_right (Some o) v h = right_by o v (wrong_inside o.kind (stripped o.inside)) refl h

-- a tag that is wrong ends the reading
wrong_by : (d : Pair) (after : List ℕ) (o : Opened) (kind : FaultKind) (w : Option FaultKind) → or_wrong (record { kind = o.kind; inside = stripped o.inside; rest = o.rest }) w ≡ Err kind
    → after_tag reading d after o w ≡ ends_here (Some kind)
wrong_by d after o kind None h = absurd (cc)
wrong_by d after o kind (Some w) h = let e : w ≡ kind = cc in ap (λ k. ends_here (Some k)) e

is_wrong : (d : Pair) (after : List ℕ) (r : Option Opened) (kind : FaultKind) → checked r ≡ Err kind → after_opening reading d after r ≡ ends_here (Some kind)
is_wrong d after None kind h = let e : Some UnclosedTag ≡ Some kind = cc in ap ends_here e
is_wrong d after (Some o) kind h = wrong_by d after o kind (wrong_inside o.kind (stripped o.inside)) h

module _ (t rest : List ℕ) (d : Pair) (from : ℕ) (xs : List TokenSeen) (so_far : IsReadTo t rest d from xs) (opens : is_sequence d.opening ≡ true) where
  lengths : length t ≡ length (text_of so_far.pieces) + length rest
  lengths = sym (ap length so_far.text) ∙ length-append (text_of so_far.pieces) rest

  scanned_here : (r : Pieces) → reading d rest ≡ r → scanned t ≡ outcome t (with_pieces so_far.pieces r) r.wrong
  scanned_here r is = scanned_is t ∙ ap (λ (r : Pieces). outcome t r r.wrong) (sym so_far.read ∙ ap (with_pieces so_far.pieces) is)

  -- no tag follows
  module _ (is : cut d.opening rest ≡ None) where
    whole : t ≡ text_of so_far.pieces ++ (rest ++ [])
    whole = sym so_far.text ∙ ap (λ l. text_of so_far.pieces ++ l) (sym (append-nil rest))

    lines_all : standalone_lines_of t (placed 0 (so_far.pieces ++ (literal rest ++ []))) ≡ standalone_lines_of t (placed 0 so_far.pieces) ++ []
    lines_all =
        ap (λ ps. standalone_lines_of t (placed 0 (so_far.pieces ++ ps))) (append-nil (literal rest)) ∙ ap (standalone_lines_of t) (placed_from so_far.pieces (literal rest))
        ∙ filter_map-append (standalone t) (placed 0 so_far.pieces) (placed (length (text_of so_far.pieces)) (literal rest))
        ∙ ap (λ l. standalone_lines_of t (placed 0 so_far.pieces) ++ l) (literal_lines t (length (text_of so_far.pieces)) rest)

    takes : TakesEnds (standalone_lines_of t (placed 0 so_far.pieces) ++ []) (length (text_of so_far.pieces)) (length (text_of so_far.pieces) + length rest) from (length t)
    takes k low high =
        covered-append (standalone_lines_of t (placed 0 so_far.pieces)) [] k ∙ ap (λ c. c || is_covered [] k) (so_far.covers k low)
        ∙ ap (λ c. nat_lt k from || c) (sym (le_false (length t) k (omega (arith, lengths))))

    tokens_all : tokens_of t (placed 0 (so_far.pieces ++ (literal rest ++ []))) ≡ xs ++ literal_at from (slice_range t from (length t))
    tokens_all =
        let lines = standalone_lines_of t (placed 0 so_far.pieces) ++ [] in
        ap (λ l. flat_map (tokens_at t l) (placed 0 (so_far.pieces ++ (literal rest ++ [])))) lines_all
        ∙ ap (λ ps. flat_map (tokens_at t lines) (placed 0 (so_far.pieces ++ ps))) (append-nil (literal rest))
        ∙ ap (flat_map (tokens_at t lines)) (placed_from so_far.pieces (literal rest))
        ∙ flat_map-append (tokens_at t lines) (placed 0 so_far.pieces) (placed (length (text_of so_far.pieces)) (literal rest))
        ∙ ap (λ l. l ++ flat_map (tokens_at t lines) (placed (length (text_of so_far.pieces)) (literal rest))) (so_far.settled [] (λ w k lt other le. refl))
        ∙ ap (λ l. xs ++ l) (literal_between t lines (text_of so_far.pieces) rest [] from (length t) whole so_far.past (omega (arith, lengths)) takes)

    pub ends_well : scanned t ≡ Ok (xs ++ literal_at from (slice_range t from (length t)))
    ends_well = scanned_here (with_pieces (literal rest) (ends_here None)) (at_cut d rest None (sequence_opens d.opening opens) is) ∙ ap (λ l. Ok l) tokens_all

    pub ends_sliced : AreSlices t 0 (xs ++ literal_at from (slice_range t from (length t)))
    ends_sliced =
        let ys : List TokenSeen = literal_at from (slice_range t from (length t)) in
        slices-append t 0 (length (text_of so_far.pieces)) xs ys so_far.slices so_far.ended
        (λ f le. subst (AreSlices t f) (append-nil ys) (literal_sliced t from (length t) (length t) [] f (omega arith) (omega (arith, so_far.past)) (omega (arith, lengths)) (omega arith) (λ g le'. tt)))

  -- a tag follows
  module _ (before after : List ℕ) (is : cut d.opening rest ≡ Some (before, after)) where
    at : place t rest d from xs so_far before after is opens ≡ length t - length rest + length before
    at = omega (arith, lengths)

    pub stops : (kind : FaultKind) → checked (tag_after d.closing after) ≡ Err kind → scanned t ≡ Err (record { kind = kind; place = length t - length rest + length before })
    stops kind h =
        scanned_here (with_pieces (literal before) (ends_here (Some kind))) (reads_on t rest d from xs so_far before after is opens ∙ ap (with_pieces (literal before)) (is_wrong d after (tag_after d.closing after) kind h))
        ∙ ap (λ n. Err (record { kind = kind; place = n }))
        (ap length (text-append so_far.pieces (literal before ++ []) ∙ ap (λ l. text_of so_far.pieces ++ text_of l) (append-nil (literal before)) ∙ ap (λ l. text_of so_far.pieces ++ l) (literal_text before))
        ∙ length-append (text_of so_far.pieces) before ∙ at)

    pub place_boundary : IsCharBoundary rest (length before) → IsCharBoundary t (length t - length rest + length before)
    place_boundary h =
        let n : ℕ = length (text_of so_far.pieces) in
        let there : drop n t ≡ rest = ap (drop n) (sym so_far.text) ∙ drop-append_seam (text_of so_far.pieces) rest in
        subst (λ n. IsCharBoundary t n) at (IsCharBoundary-from_rest t n (length before) (omega (arith, lengths)) (subst (λ l. IsCharBoundary l (length before)) (sym there) h))

    module _ (v : Opened) (ok : checked (tag_after d.closing after) ≡ Ok v) where
      tag_right : IsRight (tag_after d.closing after) v
      tag_right = is_right (tag_after d.closing after) v ok

      rest_same : tag_right.tag.rest ≡ v.rest
      rest_same = ap (λ (o : Opened). o.rest) tag_right.same

      tag_order : place t rest d from xs so_far before after is opens < length t - length tag_right.tag.rest
      tag_order = order t rest d from xs so_far before after is opens tag_right.tag tag_right.opened

      pub rest_fits : length v.rest ≤ length t
      rest_fits = omega (arith, ap length rest_same, tag_order, length-append (text_of so_far.pieces) rest)

      pub past_order : length t - length rest + length before ≤ length t - length v.rest
      past_order = omega (arith, ap length rest_same, tag_order, at)

      pub shorter : length v.rest < length rest
      shorter = omega (arith, ap length rest_same, tag_order, lengths)

      pub past_boundary : IsUtf8 v.rest → IsCharBoundary t (length t - length v.rest)
      past_boundary u =
          subst (λ l. IsCharBoundary t (length t - length l)) rest_same
          (seam_after t rest d from xs so_far before after is opens tag_right.tag tag_right.opened (subst IsUtf8 (sym rest_same) u))

      -- what is read once the tag is
      abbrev Next : ℕ → Opened → Type 0
      Next at o = IsReadTo t o.rest (delimiters_after d o.kind o.inside) (max from (taken t o.kind at (length t - length o.rest)).1)
          (xs ++ (literal_at from (slice_range t from (taken t o.kind at (length t - length o.rest)).0) ++ tag_at t o.kind o.inside at (length t - length o.rest) ∷ []))

      pub continues : Next (length t - length rest + length before) v
      continues =
          subst (Next (length t - length rest + length before)) tag_right.same
          (subst (λ n. Next n (record { kind = tag_right.tag.kind; inside = stripped tag_right.tag.inside; rest = tag_right.tag.rest })) at
          (goes_on t rest d from xs so_far before after is opens tag_right.tag tag_right.opened tag_right.right))

      -- and where the next literal may begin
      abbrev Seam : ℕ → Opened → Type 0
      Seam at o = IsCharBoundary t (max from (taken t o.kind at (length t - length o.rest)).1)

      pub continues_seam : IsUtf8 t → IsUtf8 v.rest → IsCharBoundary t from → Seam (length t - length rest + length before) v
      continues_seam u w seam =
          subst (Seam (length t - length rest + length before)) tag_right.same
          (subst (λ n. Seam n (record { kind = tag_right.tag.kind; inside = stripped tag_right.tag.inside; rest = tag_right.tag.rest })) at
          (next_seam t rest d from xs so_far before after is opens tag_right.tag tag_right.opened u seam
          (seam_after t rest d from xs so_far before after is opens tag_right.tag tag_right.opened (subst IsUtf8 (sym rest_same) w))))
