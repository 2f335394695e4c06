-- What each stage of reading a body shows.
use Rattle.std.proofs.Common.{◌≡◌, ℕ, ◌+◌, ◌<◌, ◌≤◌, List, [], ◌∷◌, ◌++◌, length, take, drop, arith, sym, ap, subst, refl, ◌∙◌, append_assoc, append-nil, length-append, inl, inr, Some, None}
use Rattle.std.proofs.Math.Seq.{drop-append_seam}
use Rattle.std.proofs.lemmas.List.Concat.{flat_map-append}
use Rattle.std.proofs.lemmas.List.Elements.{All-push}
use Rattle.std.specs.List.{flat_map}
use Rattle.http_read.specs.declared.lengths.TheConstants.{BODY_LIMIT}
use Rattle.http_read.specs.declared.awaited.Awaited.TheVariants as at
use Rattle.http_read.specs.declared.body.Body.{Body}
use Rattle.http_read.specs.declared.body.BodyRead.{BodyRead}
use Rattle.http_read.specs.declared.body.BodyRead.TheVariants as came
use Rattle.http_read.specs.declared.checks.Cut.{Cut}
use Rattle.http_read.specs.declared.checks.Cut.TheVariants as cut
use Rattle.http_read.specs.declared.chunk_lines.LineRead.TheVariants as line
use Rattle.http_read.specs.declared.breaks.BreakRead.TheVariants as break
use Rattle.http_read.specs.declared.trailers.TrailerRead.TheVariants as trailer
use Rattle.httparse.specs.Ascii.{crlf_bytes}
use Rattle.httparse.specs.Grammar.{print_chunk_line, chunk_size}
use Rattle.http_read.specs.Heads.{Reading, got, refused, ended}
use Rattle.http_read.specs.Checks.{Framing, fixed, chunked}
use Rattle.http_read.specs.Bodies.{Chunk, IsChunk, print_chunk, chunks_joined, BeginsWithChunks, ReadsChunks, ReadsBody}
use Rattle.http_read.specs.BodyProgress.{IsAfterChunks, IsWithinChunk, IsUsedUpTo, IsUsed, left_of, GoesOn, ShowsRead, ShowsStep}
use Rattle.http_read.specs.Lines.{ShowsLine}
use Rattle.http_read.specs.BodySteps.{ShowsBreak, ShowsTrailer}
use Rattle.http_read.specs.Taken.{TakesHeld}
use Rattle.http_read.proofs.ChunkLines.{line_feed_last}
use Rattle.http_read.proofs.Longer.{chunks_longer}

-- a body by chunks
by_chunks : (framing : Framing) (input : List ℕ) (r : Reading (List ℕ)) → framing ≡ chunked → ReadsChunks input r → ReadsBody framing input r
by_chunks framing input r is reads = subst (λ f. ReadsBody f input r) (sym is) reads

-- what is used is that before what comes next
used_at : (framing : Framing) (body : Body) (used : List ℕ) (next : _) → body.awaits ≡ next → IsUsed framing body used
    → IsUsedUpTo framing next body.bytes.items used
used_at framing body used next is holds = subst (λ p. IsUsedUpTo framing p body.bytes.items used) is holds

-- where nothing is used all stays
pub stays : (old new : Body) (held left : List ℕ) → new.awaits ≡ old.awaits → new.bytes.items ≡ old.bytes.items → left ≡ held → GoesOn old new held left
stays old new held left next bytes same = λ framing used is. (
  [],
  sym same,
  subst (λ t. IsUsed framing new t) (sym (append-nil used))
      (subst (λ b. IsUsedUpTo framing new.awaits b used) (sym bytes) (subst (λ p. IsUsedUpTo framing p old.bytes.items used) (sym next) is)),
)

-- ---- a stated length

fixed_on : (old new : Body) (n missing : ℕ) (held left : List ℕ) → old.awaits ≡ at.Fixed n → new.awaits ≡ at.Fixed missing
    → TakesHeld n held left old.bytes.items new.bytes.items missing → GoesOn old new held left
fixed_on old new n missing held left from to t = λ framing used is.
    let u = used_at framing old used (at.Fixed n) from is in (
      t.front,
      t.passed,
      subst (λ p. IsUsedUpTo framing p new.bytes.items (used ++ t.front)) (sym to) (
        u.0 ∙ ap fixed (omega (arith, t.size, ap length t.added, length-append old.bytes.items t.front)),
        ap (λ b. b ++ t.front) u.1 ∙ sym t.added,
      ),
    )

pub fixed_open : (old new : Body) (n missing : ℕ) (held left : List ℕ) → old.awaits ≡ at.Fixed n → new.awaits ≡ at.Fixed missing
    → TakesHeld n held left old.bytes.items new.bytes.items missing → 0 < missing → left ≡ [] → ShowsStep (Some came.Open) old new held left
fixed_open old new n missing held left from to t some none = record {
  goes_on = fixed_on old new n missing held left from to t;
  short = λ framing used is.
      let u = used_at framing old used (at.Fixed n) from is in
      subst (λ f. ReadsBody f (used ++ held) ended) (sym u.0)
      (omega (arith, some, t.size, ap length t.passed, length-append t.front left, ap length none, length-append used held, ap length u.1));
  bound = rw (from, to) (omega (arith, t.size, ap length t.passed, length-append t.front left));
  room = omega (arith, ap length none);
  wanted = rw to (omega (arith, ap length none, some));
}

pub fixed_whole : (old new : Body) (n missing : ℕ) (held left : List ℕ) → old.awaits ≡ at.Fixed n
    → TakesHeld n held left old.bytes.items new.bytes.items missing → missing ≡ 0 → ShowsStep (Some came.Whole) old new held left
fixed_whole old new n missing held left from t none = λ framing used is.
    let u = used_at framing old used (at.Fixed n) from is in
    subst (λ f. ReadsBody f (used ++ held) (got new.bytes.items left)) (sym u.0) (
      omega (arith, t.size, none, ap length t.added, length-append old.bytes.items t.front),
      ap (λ b. b ++ held) u.1 ∙ ap (λ h. old.bytes.items ++ h) t.passed ∙ sym (append_assoc old.bytes.items t.front left)
          ∙ ap (λ b. b ++ left) (sym t.added),
    )

-- ---- the line of a chunk

pub line_open : (old : Body) (held left : List ℕ) → old.awaits ≡ at.Line → ShowsLine line.Open held left → ShowsStep (Some came.Open) old old held left
line_open old held left from (cut, same) = record {
  goes_on = stays old old held left refl refl same;
  short = λ framing used is.
      let u = used_at framing old used at.Line from is in
      by_chunks framing (used ++ held) ended u.0 (u.1.chunks, held, chunks_longer used u.1.chunks [] held u.1.begins, inl cut);
  bound = omega (arith, ap length same);
  room = omega (arith, ap length same, cut.short);
  wanted = rw from (omega (arith, ap length same, cut.short));
}

pub line_wrong : (old : Body) (held left : List ℕ) → old.awaits ≡ at.Line → ShowsLine line.Wrong held left
    → ShowsStep (Some (came.Refused 400)) old old held left
line_wrong old held left from none = λ framing used is.
    let u = used_at framing old used at.Line from is in
    by_chunks framing (used ++ held) (refused 400) u.0
    (u.1.chunks, held, chunks_longer used u.1.chunks [] held u.1.begins, inl (refl, none))

pub line_large : (old : Body) (size : ℕ) (held left : List ℕ) → old.awaits ≡ at.Line → ShowsLine (line.Size size) held left
    → BODY_LIMIT < length old.bytes.items + size → ShowsStep (Some (came.Refused 413)) old old held left
line_large old size held left from (l, begins, says) large = λ framing used is.
    let u = used_at framing old used at.Line from is in
    by_chunks framing (used ++ held) (refused 413) u.0 (
      u.1.chunks,
      held,
      chunks_longer used u.1.chunks [] held u.1.begins,
      inr (l, left, begins, inl (refl, omega (arith, large, says, ap length u.1.joined))),
    )

pub line_last : (old new : Body) (size : ℕ) (held left : List ℕ) → old.awaits ≡ at.Line → new.awaits ≡ at.Trailer → new.bytes.items ≡ old.bytes.items
    → ShowsLine (line.Size size) held left → size ≡ 0 → ShowsStep None old new held left
line_last old new size held left from to bytes (l, begins, says) none = record {
  goes_on = λ framing used is.
      let u = used_at framing old used at.Line from is in (
        print_chunk_line l,
        begins.whole,
        subst (λ p. IsUsedUpTo framing p new.bytes.items (used ++ print_chunk_line l)) (sym to) (
          u.0,
          record {
            chunks = u.1.chunks;
            line = l;
            begins = chunks_longer used u.1.chunks [] (print_chunk_line l) u.1.begins;
            is_line = begins.is_line;
            last = says ∙ none;
            joined = bytes ∙ u.1.joined;
          },
        ),
      );
  bound = rw (from, to) (omega (arith, begins.is_line.short, ap length begins.whole, length-append (print_chunk_line l) left));
  falls = rw (from, to) (omega (arith, (line_feed_last l []).0, ap length begins.whole, length-append (print_chunk_line l) left));
}

pub line_size : (old new : Body) (size : ℕ) (held left : List ℕ) → old.awaits ≡ at.Line → new.awaits ≡ at.Chunk size → new.bytes.items ≡ old.bytes.items
    → ShowsLine (line.Size size) held left → 0 < size → length old.bytes.items + size ≤ BODY_LIMIT → ShowsStep None old new held left
line_size old new size held left from to bytes (l, begins, says) some small = record {
  goes_on = λ framing used is.
      let u = used_at framing old used at.Line from is in (
        print_chunk_line l,
        begins.whole,
        subst (λ p. IsUsedUpTo framing p new.bytes.items (used ++ print_chunk_line l)) (sym to) (
          u.0,
          record {
            chunks = u.1.chunks;
            line = l;
            part = [];
            begins = subst (λ t. BeginsWithChunks (used ++ print_chunk_line l) u.1.chunks t) (sym (append-nil (print_chunk_line l)))
                (chunks_longer used u.1.chunks [] (print_chunk_line l) u.1.begins);
            is_line = begins.is_line;
            size = omega (arith, says);
            some = omega (arith, says, some);
            joined = bytes ∙ u.1.joined ∙ sym (append-nil (chunks_joined u.1.chunks));
            small = omega (arith, ap length bytes, small);
          },
        ),
      );
  bound = rw (from, to) (omega (arith, some, small, ap length bytes, begins.is_line.short, ap length begins.whole, length-append (print_chunk_line l) left));
  falls = rw (from, to) (omega (arith, (line_feed_last l []).0, ap length begins.whole, length-append (print_chunk_line l) left));
}

-- ---- in a chunk

-- more of its bytes
more_of_chunk : (n missing : ℕ) (bytes after used held left : List ℕ) → IsWithinChunk n bytes used → (t : TakesHeld n held left bytes after missing)
    → IsWithinChunk missing after (used ++ t.front)
more_of_chunk n missing bytes after used held left w t =
    let text : List ℕ = print_chunk_line w.line in
    record {
      chunks = w.chunks;
      line = w.line;
      part = w.part ++ t.front;
      begins = subst (λ b. BeginsWithChunks (used ++ t.front) w.chunks b) (append_assoc text w.part t.front)
          (chunks_longer used w.chunks (text ++ w.part) t.front w.begins);
      is_line = w.is_line;
      size = omega (arith, w.size, t.size, length-append w.part t.front);
      some = w.some;
      joined = t.added ∙ ap (λ b. b ++ t.front) w.joined ∙ append_assoc (chunks_joined w.chunks) w.part t.front;
      small = omega (arith, w.small, t.size, ap length t.added, length-append bytes t.front);
    }

-- what is used and what is held end within the chunk
cut_chunk : (n : ℕ) (bytes used held : List ℕ) → IsWithinChunk n bytes used → length held < n + 2 → ReadsChunks (used ++ held) ended
cut_chunk n bytes used held w short =
    let text : List ℕ = print_chunk_line w.line in (
      w.chunks,
      (text ++ w.part) ++ held,
      chunks_longer used w.chunks (text ++ w.part) held w.begins,
      inr (
        w.line,
        w.part ++ held,
        record { is_line = w.is_line; whole = append_assoc text w.part held },
        inl (
          w.some,
          omega (arith, w.small, w.size, ap length w.joined, length-append (chunks_joined w.chunks) w.part),
          omega (arith, w.size, short, length-append w.part held),
        ),
      ),
    )

pub chunk_open : (old new : Body) (n missing : ℕ) (held left : List ℕ) → old.awaits ≡ at.Chunk n → new.awaits ≡ at.Chunk missing
    → TakesHeld n held left old.bytes.items new.bytes.items missing → 0 < missing → left ≡ [] → ShowsStep (Some came.Open) old new held left
chunk_open old new n missing held left from to t some none = record {
  goes_on = λ framing used is.
      let u = used_at framing old used (at.Chunk n) from is in (
        t.front,
        t.passed,
        subst (λ p. IsUsedUpTo framing p new.bytes.items (used ++ t.front)) (sym to)
            (u.0, more_of_chunk n missing old.bytes.items new.bytes.items used held left u.1 t),
      );
  short = λ framing used is.
      let u = used_at framing old used (at.Chunk n) from is in
      by_chunks framing (used ++ held) ended u.0 (cut_chunk n old.bytes.items used held u.1
      (omega (arith, some, t.size, ap length t.passed, length-append t.front left, ap length none)));
  bound = rw (from, to) (omega (arith, t.size, ap length t.passed, length-append t.front left, ap length t.added, length-append old.bytes.items t.front));
  room = omega (arith, ap length none);
  wanted = rw to (omega (arith, ap length none, some));
}

pub chunk_whole : (old new : Body) (n missing : ℕ) (held left : List ℕ) → old.awaits ≡ at.Chunk n → new.awaits ≡ at.Break
    → TakesHeld n held left old.bytes.items new.bytes.items missing → missing ≡ 0 → ShowsStep None old new held left
chunk_whole old new n missing held left from to t none = record {
  goes_on = λ framing used is.
      let u = used_at framing old used (at.Chunk n) from is in (
        t.front,
        t.passed,
        subst (λ p. IsUsedUpTo framing p new.bytes.items (used ++ t.front)) (sym to) (
          u.0,
          subst (λ m. IsWithinChunk m new.bytes.items (used ++ t.front)) none
              (more_of_chunk n missing old.bytes.items new.bytes.items used held left u.1 t),
        ),
      );
  bound = rw (from, to) (omega (arith, none, t.size, ap length t.passed, length-append t.front left, ap length t.added, length-append old.bytes.items t.front));
  falls = rw (from, to) (omega (arith, ap length t.passed, length-append t.front left));
}

-- ---- after a chunk

pub break_open : (old : Body) (held left : List ℕ) → old.awaits ≡ at.Break → ShowsBreak break.Open held left → ShowsStep (Some came.Open) old old held left
break_open old held left from (few, same) = record {
  goes_on = stays old old held left refl refl same;
  short = λ framing used is.
      let u = used_at framing old used at.Break from is in
      by_chunks framing (used ++ held) ended u.0 (cut_chunk 0 old.bytes.items used held u.1 few);
  bound = omega (arith, ap length same);
  room = omega (arith, few, ap length same);
  wanted = rw from (omega (arith, few, ap length same));
}

pub break_wrong : (old : Body) (held left : List ℕ) → old.awaits ≡ at.Break → ShowsBreak break.Wrong held left
    → ShowsStep (Some (came.Refused 400)) old old held left
break_wrong old held left from (two, wrong) = λ framing used is.
    let u = used_at framing old used at.Break from is in
    let w = u.1 in
    let text : List ℕ = print_chunk_line w.line in
    let size : chunk_size w.line ≡ length w.part = omega (arith, w.size) in
    by_chunks framing (used ++ held) (refused 400) u.0 (
      w.chunks,
      (text ++ w.part) ++ held,
      chunks_longer used w.chunks (text ++ w.part) held w.begins,
      inr (
        w.line,
        w.part ++ held,
        record { is_line = w.is_line; whole = append_assoc text w.part held },
        inr (inl (
          refl,
          w.some,
          omega (arith, w.small, w.size, ap length w.joined, length-append (chunks_joined w.chunks) w.part),
          omega (arith, w.size, two, length-append w.part held),
          λ same. wrong (sym (ap (take 2) (ap (λ k. drop k (w.part ++ held)) size ∙ drop-append_seam w.part held)) ∙ same),
        )),
      ),
    )

-- a chunk and its line break make one more whole chunk
whole_chunk : (bytes used : List ℕ) → IsWithinChunk 0 bytes used → IsAfterChunks bytes (used ++ crlf_bytes)
whole_chunk bytes used w =
    let text : List ℕ = print_chunk_line w.line in
    let chunk : Chunk = record { line = w.line; bytes = w.part } in
    let all : List Chunk = w.chunks ++ chunk ∷ [] in
    let joined : chunks_joined all ≡ chunks_joined w.chunks ++ w.part =
    flat_map-append (λ c. c.bytes) w.chunks (chunk ∷ []) ∙ ap (λ t. chunks_joined w.chunks ++ t) (append-nil w.part) in
    let printed : flat_map print_chunk all ≡ flat_map print_chunk w.chunks ++ print_chunk chunk =
    flat_map-append print_chunk w.chunks (chunk ∷ []) ∙ ap (λ t. flat_map print_chunk w.chunks ++ t) (append-nil (print_chunk chunk)) in
    let longer = chunks_longer used w.chunks (text ++ w.part) crlf_bytes w.begins in
    record {
      chunks = all;
      begins = record {
        each = All-push IsChunk w.chunks chunk w.begins.each
            record { line = w.is_line; size = omega (arith, w.size); some = omega (arith, w.size, w.some) };
        whole = longer.whole ∙ sym printed ∙ sym (append-nil (flat_map print_chunk all));
        small = omega (arith, w.small, ap length w.joined, ap length joined);
      };
      joined = w.joined ∙ sym joined;
    }

pub break_passed : (old new : Body) (held left : List ℕ) → old.awaits ≡ at.Break → new.awaits ≡ at.Line → new.bytes.items ≡ old.bytes.items
    → ShowsBreak break.Passed held left → ShowsStep None old new held left
break_passed old new held left from to bytes is_break = record {
  goes_on = λ framing used is.
      let u = used_at framing old used at.Break from is in (
        crlf_bytes,
        is_break,
        subst (λ p. IsUsedUpTo framing p new.bytes.items (used ++ crlf_bytes)) (sym to)
            (u.0, subst (λ b. IsAfterChunks b (used ++ crlf_bytes)) (sym bytes) (whole_chunk old.bytes.items used u.1)),
      );
  bound = rw (from, to) (omega (arith, ap length bytes, ap length is_break, length-append crlf_bytes left));
  falls = rw (from, to) (omega (arith, ap length is_break, length-append crlf_bytes left));
}

-- ---- after the last chunk

pub trailer_open : (old : Body) (held left : List ℕ) → old.awaits ≡ at.Trailer → ShowsTrailer trailer.Open held left → ShowsStep (Some came.Open) old old held left
trailer_open old held left from (cut, same) = record {
  goes_on = stays old old held left refl refl same;
  short = λ framing used is.
      let u = used_at framing old used at.Trailer from is in
      by_chunks framing (used ++ held) ended u.0 (
        u.1.chunks,
        print_chunk_line u.1.line ++ held,
        chunks_longer used u.1.chunks (print_chunk_line u.1.line) held u.1.begins,
        inr (u.1.line, held, record { is_line = u.1.is_line; whole = refl }, inr (u.1.last, cut)),
      );
  bound = omega (arith, ap length same);
  room = omega (arith, cut.2, ap length same);
  wanted = rw from (omega (arith, cut.2, ap length same));
}

pub trailer_refused : (old : Body) (status : ℕ) (held left : List ℕ) → old.awaits ≡ at.Trailer → ShowsTrailer (trailer.Refused status) held left
    → ShowsStep (Some (came.Refused status)) old old held left
trailer_refused old status held left from reads = λ framing used is.
    let u = used_at framing old used at.Trailer from is in
    by_chunks framing (used ++ held) (refused status) u.0 (
      u.1.chunks,
      print_chunk_line u.1.line ++ held,
      chunks_longer used u.1.chunks (print_chunk_line u.1.line) held u.1.begins,
      inr (u.1.line, held, record { is_line = u.1.is_line; whole = refl }, inr (inr (u.1.last, reads))),
    )

pub trailer_whole : (old : Body) (held left : List ℕ) → old.awaits ≡ at.Trailer → ShowsTrailer trailer.Whole held left
    → ShowsStep (Some came.Whole) old old held left
trailer_whole old held left from (fields, reads) = λ framing used is.
    let u = used_at framing old used at.Trailer from is in
    by_chunks framing (used ++ held) (got old.bytes.items left) u.0 (
      u.1.chunks,
      print_chunk_line u.1.line ++ held,
      chunks_longer used u.1.chunks (print_chunk_line u.1.line) held u.1.begins,
      u.1.joined,
      (fields, (u.1.line, held, record { is_line = u.1.is_line; whole = refl }, u.1.last, reads)),
    )

-- ---- one step after another

pub goes_on_after : (a b c : Body) (held mid left : List ℕ) → GoesOn a b held mid → GoesOn b c mid left → GoesOn a c held left
goes_on_after a b c held mid left first then = λ framing used is.
    let f = first framing used is in
    let s = then framing (used ++ f.0) f.2 in (
      f.0 ++ s.0,
      f.1 ∙ ap (λ t. f.0 ++ t) s.1 ∙ sym (append_assoc f.0 s.0 left),
      subst (λ t. IsUsed framing c t) (append_assoc used f.0 s.0) s.2,
    )

-- what is shown of the body after a step is shown of it before
pub read_after : (a b : Body) (held mid : List ℕ) (r : Reading (List ℕ)) → GoesOn a b held mid
    → ((framing : Framing) (used : List ℕ) → IsUsed framing b used → ReadsBody framing (used ++ mid) r)
    → (framing : Framing) (used : List ℕ) → IsUsed framing a used → ReadsBody framing (used ++ held) r
read_after a b held mid r first then = λ framing used is.
    let f = first framing used is in
    subst (λ t. ReadsBody framing t r) (append_assoc used f.0 mid ∙ ap (λ t. used ++ t) (sym f.1)) (then framing (used ++ f.0) f.2)

pub shows_after : (read : BodyRead) (a b c : Body) (held mid left : List ℕ) → GoesOn a b held mid
    → length held + left_of b ≤ length mid + left_of a → ShowsRead read b c mid left → ShowsRead read a c held left
shows_after came.Open a b c held mid left first bound shown = record {
  goes_on = goes_on_after a b c held mid left first shown.goes_on;
  short = read_after a b held mid ended first shown.short;
  bound = omega (arith, bound, shown.bound);
  room = shown.room;
  wanted = shown.wanted;
}
shows_after came.Whole a b c held mid left first bound shown = read_after a b held mid (got c.bytes.items left) first shown
shows_after (came.Refused status) a b c held mid left first bound shown = read_after a b held mid (refused status) first shown
