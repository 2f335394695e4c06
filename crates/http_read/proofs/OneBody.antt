-- A body is read in one way.
use Rattle.std.proofs.Common.{◌≡◌, ◌≢◌, ℕ, zero, suc, ◌+◌, ◌-◌, ◌<◌, ◌≤◌, ◌⊎◌, Bool, false, true≢false, IsTrue, List, [], ◌∷◌, ◌++◌, length, take, drop, slice_index, arith, sym, ap, ap₂, subst, refl, ◌∙◌, append_assoc, length-append, inl, inr, Option, Some, None}
use Rattle.std.proofs.lemmas.List.{get_or_append_left, append_cancel_left}
use Rattle.std.proofs.lemmas.List.Elements.{All-append, All-head, All-tail}
use Rattle.std.proofs.Math.Seq.{take-append_seam, drop-append_seam}
use Rattle.std.specs.List.{All, flat_map}
use Rattle.std.specs.Char.{is_ascii_hexdigit}
use Rattle.http_read.specs.declared.lengths.TheConstants.{BODY_LIMIT}
use Rattle.httparse.specs.Ascii.{crlf_bytes}
use Rattle.httparse.specs.Grammar.{AllPass, is_ows, is_extension_byte, Field, ChunkLine, IsChunkLine, IsExtension, print_chunk_line, print_extension, print_end, crlf, chunk_size}
use Rattle.httparse.proofs.ChunkLemmas.{chunk_line_unique}
use Rattle.http_read.specs.Heads.{Reading, got, refused, ended, ReadsTrailer}
use Rattle.http_read.specs.Checks.{Framing, fixed, chunked}
use Rattle.http_read.specs.Bodies.{Chunk, IsChunk, print_chunk, chunks_joined, BeginsWithChunks, BeginsWithLine, IsNoLine, IsCutLine, EndsChunks, ReadsChunks, ReadsBody}
use Rattle.http_read.proofs.ChunkLines.{line_feed_last}
use Rattle.http_read.proofs.OneTrailer.{one_trailer}

-- fronts of one length are one
split_same : (a b r q : List ℕ) → a ++ r ≡ b ++ q → length a ≡ length b → (a ≡ b) × (r ≡ q)
split_same a b r q e same = (
  sym (take-append_seam a r) ∙ ap (take (length a)) e ∙ ap (λ n. take n (b ++ q)) same ∙ take-append_seam b q,
  sym (drop-append_seam a r) ∙ ap (drop (length a)) e ∙ ap (λ n. drop n (b ++ q)) same ∙ drop-append_seam b q,
)

no_feed_among : (test : ℕ → Bool) (xs : List ℕ) → test 10 ≡ false → AllPass test xs → All (λ b. b ≢ 10) xs
no_feed_among test xs fails pass = λ k d below is.
    let h : IsTrue (test 10) = subst (λ b. IsTrue (test b)) is (pass k d below) in
    true≢false (sym (subst IsTrue fails h))

no_feed_one : (b : ℕ) → b ≢ 10 → All (λ b. b ≢ 10) (b ∷ [])
no_feed_one b other zero d below is = other is
no_feed_one b other (suc k) d below is = absurd (omega (arith, below))

no_feed_extension : (e : Option (List ℕ)) → IsExtension e → All (λ b. b ≢ 10) (print_extension e)
no_feed_extension None ok = λ k d below is. absurd (omega (arith, below))
no_feed_extension (Some text) ok =
    All-append (λ b. b ≢ 10) (59 ∷ []) text (no_feed_one 59 (λ is. absurd (omega (arith, is)))) (no_feed_among is_extension_byte text refl ok)

-- no line feed is before the end of a chunk line
no_feed_inside : (l : ChunkLine) (rest : List ℕ) (k : ℕ) → IsChunkLine l → k + 1 < length (print_chunk_line l)
    → slice_index (print_chunk_line l ++ rest) k ≢ 10
unfolding print_chunk_line
no_feed_inside l rest k ok inside is =
    let front : List ℕ = l.digits ++ l.pad ++ print_extension l.extension in
    let none : All (λ b. b ≢ 10) (front ++ 13 ∷ []) =
    All-append (λ b. b ≢ 10) front (13 ∷ [])
    (All-append (λ b. b ≢ 10) (l.digits ++ l.pad) (print_extension l.extension)
    (All-append (λ b. b ≢ 10) l.digits l.pad (no_feed_among is_ascii_hexdigit l.digits refl ok.digits.2) (no_feed_among is_ows l.pad refl ok.pad))
    (no_feed_extension l.extension ok.extension))
    (no_feed_one 13 (λ is. absurd (omega (arith, is)))) in
    let size : length (front ++ print_end crlf) ≡ length front + 2 = length-append front (print_end crlf) in
    let short : length (front ++ 13 ∷ []) ≡ length front + 1 = length-append front (13 ∷ []) in
    let below : k < length (front ++ 13 ∷ []) = omega (arith, inside, size, short) in
    let text : front ++ print_end crlf ++ rest ≡ (front ++ 13 ∷ []) ++ (10 ∷ rest) =
    append_assoc front (print_end crlf) rest ∙ sym (append_assoc front (13 ∷ []) (10 ∷ rest)) in
    none k 0 below (sym (get_or_append_left (front ++ 13 ∷ []) (10 ∷ rest) 0 k below) ∙ ap (λ t. slice_index t k) (sym text) ∙ is)

line_len_some : (l : ChunkLine) → 2 ≤ length (print_chunk_line l)
line_len_some l = (line_feed_last l []).0

feed_there : (tail : List ℕ) (line : ChunkLine) (behind : List ℕ) → BeginsWithLine tail line behind
    → slice_index tail (length (print_chunk_line line) - 1) ≡ 10
feed_there tail line behind begins =
    ap (λ t. slice_index t (length (print_chunk_line line) - 1)) begins.whole ∙ (line_feed_last line behind).1

line_fits : (tail : List ℕ) (line : ChunkLine) (behind : List ℕ) → BeginsWithLine tail line behind
    → length (print_chunk_line line) + length behind ≡ length tail
line_fits tail line behind begins = sym (length-append (print_chunk_line line) behind) ∙ ap length (sym begins.whole)

-- a chunk line is no bad line, and not cut off
line_is_line : (tail : List ℕ) (line : ChunkLine) (behind : List ℕ) → BeginsWithLine tail line behind → ¬ (IsNoLine tail)
line_is_line tail line behind begins (inl (long, none)) =
    none (length (print_chunk_line line) - 1) (omega (arith, begins.is_line.short, line_len_some line))
    (omega (arith, line_len_some line, line_fits tail line behind begins)) (feed_there tail line behind begins)
line_is_line tail line behind begins (inr (n, first, bad)) =
    let p : List ℕ = print_chunk_line line in
    let a : ¬ (n < length p) = λ h. no_feed_inside line behind (n - 1) begins.is_line.well_formed (omega (arith, h, first.some))
    (ap (λ t. slice_index t (n - 1)) (sym begins.whole) ∙ first.feed) in
    let b : ¬ (length p < n) = λ h. first.before (length p - 1) (omega (arith, h, line_len_some line)) (feed_there tail line behind begins) in
    let same : n ≡ length p = omega (arith, a, b) in
    bad line begins.is_line.well_formed (ap (λ k. take k tail) same ∙ ap (take (length p)) begins.whole ∙ take-append_seam p behind)

line_is_whole : (tail : List ℕ) (line : ChunkLine) (behind : List ℕ) → BeginsWithLine tail line behind → ¬ (IsCutLine tail)
line_is_whole tail line behind begins cut =
    cut.open_end (length (print_chunk_line line) - 1) (omega (arith, begins.is_line.short, line_len_some line))
    (omega (arith, line_len_some line, line_fits tail line behind begins)) (feed_there tail line behind begins)

no_line_is_whole : (tail : List ℕ) → IsNoLine tail → ¬ (IsCutLine tail)
no_line_is_whole tail (inl (long, none)) cut = absurd (omega (arith, long, cut.short))
no_line_is_whole tail (inr (n, first, bad)) cut =
    cut.open_end (n - 1) (omega (arith, first.short, first.some)) (omega (arith, first.some, first.within)) first.feed

one_line : (tail : List ℕ) (l k : ChunkLine) (r q : List ℕ) → BeginsWithLine tail l r → BeginsWithLine tail k q → (l ≡ k) × (r ≡ q)
one_line tail l k r q a b =
    chunk_line_unique tail l k r q (a.is_line.well_formed, a.whole) (b.is_line.well_formed, b.whole)

-- what follows a chunk line that ends the chunks
abbrev Behind : ℕ → ChunkLine → List ℕ → Reading (List Field) → Type 0
Behind n line behind x =
    ((BODY_LIMIT < n + chunk_size line) × (x ≡ refused 413))
    ⊎ (((0 < chunk_size line) × (n + chunk_size line ≤ BODY_LIMIT)
    × (chunk_size line + 2 ≤ length behind) × ¬ (take 2 (drop (chunk_size line) behind) ≡ crlf_bytes) × (x ≡ refused 400))
    ⊎ (((0 < chunk_size line) × (n + chunk_size line ≤ BODY_LIMIT) × (length behind < chunk_size line + 2) × (x ≡ ended))
    ⊎ ((chunk_size line ≡ 0) × ReadsTrailer behind x)))

abbrev AtLine : ℕ → List ℕ → Reading (List Field) → Type 0
AtLine n tail x = (line : ChunkLine) × (behind : List ℕ) × BeginsWithLine tail line behind × Behind n line behind x

abbrev Kind : ℕ → List ℕ → Reading (List Field) → Type 0
Kind n tail x = (IsNoLine tail × (x ≡ refused 400)) ⊎ ((IsCutLine tail × (x ≡ ended)) ⊎ AtLine n tail x)

kind : (n : ℕ) (tail : List ℕ) (x : Reading (List Field)) → EndsChunks n tail x → Kind n tail x
kind n tail (got fields rest) (line, behind, begins, none, trailer) = inr (inr (line, behind, begins, inr (inr (inr (none, trailer)))))
kind n tail (refused s) (inl (is, bad)) = inl (bad, ap (λ s. refused s) is)
kind n tail (refused s) (inr (line, behind, begins, inl (is, large))) = inr (inr (line, behind, begins, inl (large, ap (λ s. refused s) is)))
kind n tail (refused s) (inr (line, behind, begins, inr (inl (is, some, small, enough, wrong)))) =
    inr (inr (line, behind, begins, inr (inl (some, small, enough, wrong, ap (λ s. refused s) is))))
kind n tail (refused s) (inr (line, behind, begins, inr (inr (none, trailer)))) =
    inr (inr (line, behind, begins, inr (inr (inr (none, trailer)))))
kind n tail ended (inl cut) = inr (inl (cut, refl))
kind n tail ended (inr (line, behind, begins, inl (some, small, short))) =
    inr (inr (line, behind, begins, inr (inr (inl (some, small, short, refl)))))
kind n tail ended (inr (line, behind, begins, inr (none, trailer))) = inr (inr (line, behind, begins, inr (inr (inr (none, trailer)))))

one_behind : (n : ℕ) (line : ChunkLine) (behind : List ℕ) (x y : Reading (List Field)) → n ≤ BODY_LIMIT → Behind n line behind x
    → Behind n line behind y → x ≡ y
one_behind n line behind x y few (inl (a, is)) (inl (b, it)) = is ∙ sym it
one_behind n line behind x y few (inl (a, is)) (inr (inl (b, c, d, e, it))) = absurd (omega (arith, a, c))
one_behind n line behind x y few (inl (a, is)) (inr (inr (inl (b, c, d, it)))) = absurd (omega (arith, a, c))
one_behind n line behind x y few (inl (a, is)) (inr (inr (inr (b, t)))) = absurd (omega (arith, a, b, few))
one_behind n line behind x y few (inr (inl (b, c, d, e, it))) (inl (a, is)) = absurd (omega (arith, a, c))
one_behind n line behind x y few (inr (inl (b, c, d, e, it))) (inr (inl (b', c', d', e', is))) = it ∙ sym is
one_behind n line behind x y few (inr (inl (b, c, d, e, it))) (inr (inr (inl (b', c', d', is)))) = absurd (omega (arith, d, d'))
one_behind n line behind x y few (inr (inl (b, c, d, e, it))) (inr (inr (inr (b', t)))) = absurd (omega (arith, b, b'))
one_behind n line behind x y few (inr (inr (inl (b, c, d, it)))) (inl (a, is)) = absurd (omega (arith, a, c))
one_behind n line behind x y few (inr (inr (inl (b, c, d, it)))) (inr (inl (b', c', d', e', is))) = absurd (omega (arith, d, d'))
one_behind n line behind x y few (inr (inr (inl (b, c, d, it)))) (inr (inr (inl (b', c', d', is)))) = it ∙ sym is
one_behind n line behind x y few (inr (inr (inl (b, c, d, it)))) (inr (inr (inr (b', t)))) = absurd (omega (arith, b, b'))
one_behind n line behind x y few (inr (inr (inr (b, t)))) (inl (a, is)) = absurd (omega (arith, a, b, few))
one_behind n line behind x y few (inr (inr (inr (b, t)))) (inr (inl (b', c', d', e', is))) = absurd (omega (arith, b, b'))
one_behind n line behind x y few (inr (inr (inr (b, t)))) (inr (inr (inl (b', c', d', is)))) = absurd (omega (arith, b, b'))
one_behind n line behind x y few (inr (inr (inr (b, t)))) (inr (inr (inr (b', t')))) = one_trailer behind x y t t'

one_end : (n : ℕ) (tail : List ℕ) (x y : Reading (List Field)) → n ≤ BODY_LIMIT → Kind n tail x → Kind n tail y → x ≡ y
one_end n tail x y few (inl (a, is)) (inl (b, it)) = is ∙ sym it
one_end n tail x y few (inl (a, is)) (inr (inl (b, it))) = absurd (no_line_is_whole tail a b)
one_end n tail x y few (inl (a, is)) (inr (inr (line, behind, begins, w))) = absurd (line_is_line tail line behind begins a)
one_end n tail x y few (inr (inl (a, is))) (inl (b, it)) = absurd (no_line_is_whole tail b a)
one_end n tail x y few (inr (inl (a, is))) (inr (inl (b, it))) = is ∙ sym it
one_end n tail x y few (inr (inl (a, is))) (inr (inr (line, behind, begins, w))) = absurd (line_is_whole tail line behind begins a)
one_end n tail x y few (inr (inr (line, behind, begins, w))) (inl (b, it)) = absurd (line_is_line tail line behind begins b)
one_end n tail x y few (inr (inr (line, behind, begins, w))) (inr (inl (b, it))) = absurd (line_is_whole tail line behind begins b)
one_end n tail x y few (inr (inr (l, r, a, w))) (inr (inr (k, q, b, v))) =
    let same = one_line tail l k r q a b in
    one_behind n k q x y few (subst (λ t. Behind n k t x) same.1 (subst (λ m. Behind n m r x) same.0 w)) v

-- the chunks don't end where a chunk stands
goes_on : (n : ℕ) (d : Chunk) (tail rest : List ℕ) (x : Reading (List Field)) → IsChunk d → tail ≡ print_chunk d ++ rest
    → n + length d.bytes ≤ BODY_LIMIT → Kind n tail x → ⊥
goes_on n d tail rest x ok whole small k =
    by_kind k
  where
    behind_text : List ℕ
    behind_text = d.bytes ++ (crlf_bytes ++ rest)

    begins : BeginsWithLine tail d.line behind_text
    begins = record {
      is_line = ok.line;
      whole = whole ∙ append_assoc (print_chunk_line d.line ++ d.bytes) crlf_bytes rest ∙ append_assoc (print_chunk_line d.line) d.bytes (crlf_bytes ++ rest);
    }

    len : length behind_text ≡ length d.bytes + (2 + length rest)
    len = length-append d.bytes (crlf_bytes ++ rest) ∙ ap (λ m. length d.bytes + m) (length-append crlf_bytes rest)

    rest_is : drop (chunk_size d.line) behind_text ≡ crlf_bytes ++ rest
    rest_is = ap (λ m. drop m behind_text) ok.size ∙ drop-append_seam d.bytes (crlf_bytes ++ rest)

    by_behind : Behind n d.line behind_text x → ⊥
    by_behind (inl (large, is)) = absurd (omega (arith, large, small, ok.size))
    by_behind (inr (inl (some, few, enough, wrong, is))) = wrong (ap (take 2) rest_is)
    by_behind (inr (inr (inl (some, few, short, is)))) = absurd (omega (arith, short, ok.size, len))
    by_behind (inr (inr (inr (none, trailer)))) = absurd (omega (arith, none, ok.size, ok.some))

    by_kind : Kind n tail x → ⊥
    by_kind (inl (bad, is)) = line_is_line tail d.line behind_text begins bad
    by_kind (inr (inl (cut, is))) = line_is_whole tail d.line behind_text begins cut
    by_kind (inr (inr (l, r, a, w))) =
        let same = one_line tail l d.line r behind_text a begins in
        by_behind (subst (λ t. Behind n d.line t x) same.1 (subst (λ m. Behind n m r x) same.0 w))

one_chunk : (c d : Chunk) (r q : List ℕ) → IsChunk c → IsChunk d → print_chunk c ++ r ≡ print_chunk d ++ q → (c ≡ d) × (r ≡ q)
one_chunk c d r q ok fine e =
    let text : (a : Chunk) (t : List ℕ) → print_chunk a ++ t ≡ print_chunk_line a.line ++ (a.bytes ++ (crlf_bytes ++ t)) =
    λ a t. append_assoc (print_chunk_line a.line ++ a.bytes) crlf_bytes t ∙ append_assoc (print_chunk_line a.line) a.bytes (crlf_bytes ++ t) in
    let same = one_line (print_chunk c ++ r) c.line d.line _ _ (record { is_line = ok.line; whole = text c r })
    (record { is_line = fine.line; whole = e ∙ text d q }) in
    let len : length c.bytes ≡ length d.bytes = sym ok.size ∙ ap chunk_size same.0 ∙ fine.size in
    let parts = split_same c.bytes d.bytes (crlf_bytes ++ r) (crlf_bytes ++ q) same.1 len in
    (ap₂ (λ l b. record { line = l; bytes = b }) same.0 parts.0, append_cancel_left crlf_bytes r q parts.1)

one_list : (cs ds : List Chunk) (s t : List ℕ) (n : ℕ) (x y : Reading (List Field)) → All IsChunk cs → All IsChunk ds
    → flat_map print_chunk cs ++ s ≡ flat_map print_chunk ds ++ t → n + length (chunks_joined cs) ≤ BODY_LIMIT
    → n + length (chunks_joined ds) ≤ BODY_LIMIT → Kind (n + length (chunks_joined cs)) s x → Kind (n + length (chunks_joined ds)) t y
    → (cs ≡ ds) × (s ≡ t)
one_list [] [] s t n x y ok fine e small few a b = (refl, e)
one_list [] (d ∷ ds) s t n x y ok fine e small few a b =
    absurd (goes_on (n + length (chunks_joined [])) d s (flat_map print_chunk ds ++ t) x (All-head IsChunk d ds fine)
    (e ∙ append_assoc (print_chunk d) (flat_map print_chunk ds) t) (omega (arith, few, length-append d.bytes (chunks_joined ds))) a)
one_list (c ∷ cs) [] s t n x y ok fine e small few a b =
    absurd (goes_on (n + length (chunks_joined [])) c t (flat_map print_chunk cs ++ s) y (All-head IsChunk c cs ok)
    (sym e ∙ append_assoc (print_chunk c) (flat_map print_chunk cs) s) (omega (arith, small, length-append c.bytes (chunks_joined cs))) b)
one_list (c ∷ cs) (d ∷ ds) s t n x y ok fine e small few a b =
    let first = one_chunk c d (flat_map print_chunk cs ++ s) (flat_map print_chunk ds ++ t) (All-head IsChunk c cs ok) (All-head IsChunk d ds fine)
    (sym (append_assoc (print_chunk c) (flat_map print_chunk cs) s) ∙ e ∙ append_assoc (print_chunk d) (flat_map print_chunk ds) t) in
    let m : ℕ = n + length c.bytes in
    let left : n + length (chunks_joined (c ∷ cs)) ≡ m + length (chunks_joined cs) = omega (arith, length-append c.bytes (chunks_joined cs)) in
    let right : n + length (chunks_joined (d ∷ ds)) ≡ m + length (chunks_joined ds) =
    omega (arith, length-append d.bytes (chunks_joined ds), ap (λ k. length k.bytes) first.0) in
    let rest = one_list cs ds s t m x y (All-tail IsChunk c cs ok) (All-tail IsChunk d ds fine) first.1 (omega (arith, small, left))
    (omega (arith, few, right)) (subst (λ k. Kind k s x) left a) (subst (λ k. Kind k t y) right b) in
    (ap₂ (λ h k. h ∷ k) first.0 rest.0, rest.1)

-- what is read of a body whose chunks end so
abbrev of_end : List ℕ → Reading (List Field) → Reading (List ℕ)
of_end body (got fields rest) = got body rest
of_end body (refused s) = refused s
of_end body ended = ended

abbrev Chunks : List ℕ → Reading (List ℕ) → Type 0
Chunks input x = (chunks : List Chunk) × (tail : List ℕ) × BeginsWithChunks input chunks tail
    × ((z : Reading (List Field)) × Kind (length (chunks_joined chunks)) tail z × (x ≡ of_end (chunks_joined chunks) z))

by_chunks : (input : List ℕ) (x : Reading (List ℕ)) → ReadsChunks input x → Chunks input x
by_chunks input (got body rest) (chunks, tail, begins, is, (fields, ends)) = (
  chunks,
  tail,
  begins,
  (
    got fields rest,
    kind _ tail (got fields rest) (subst (λ b. EndsChunks (length b) tail (got fields rest)) is ends),
    ap (λ b. got b rest) is,
  ),
)
by_chunks input (refused s) (chunks, tail, begins, ends) = (chunks, tail, begins, (refused s, kind _ tail (refused s) ends, refl))
by_chunks input ended (chunks, tail, begins, ends) = (chunks, tail, begins, (ended, kind _ tail ended ends, refl))

one_chunked : (input : List ℕ) (x y : Reading (List ℕ)) → Chunks input x → Chunks input y → x ≡ y
one_chunked input x y (cs, s, a, (z, k, is)) (ds, t, b, (w, l, it)) =
    let same = one_list cs ds s t 0 z w a.each b.each (sym a.whole ∙ b.whole) (omega (arith, a.small)) (omega (arith, b.small))
    (subst (λ n. Kind n s z) (omega arith) k) (subst (λ n. Kind n t w) (omega arith) l) in
    let ends = one_end (length (chunks_joined ds)) t z w b.small
    (subst (λ r. Kind (length (chunks_joined ds)) r z) same.1 (subst (λ h. Kind (length (chunks_joined h)) s z) same.0 k)) l in
    is ∙ ap₂ (λ h e. of_end (chunks_joined h) e) same.0 ends ∙ sym it

pub one_body : (framing : Framing) (input : List ℕ) (x y : Reading (List ℕ)) → ReadsBody framing input x → ReadsBody framing input y → x ≡ y
one_body (fixed n) input (got a r) (got b q) (is, whole) (it, too) =
    let parts = split_same a b r q (sym whole ∙ too) (is ∙ sym it) in ap₂ (λ h t. got h t) parts.0 parts.1
one_body (fixed n) input (got a r) (refused s) x y = absurd y
one_body (fixed n) input (got a r) ended (is, whole) short = absurd (omega (arith, is, short, ap length whole, length-append a r))
one_body (fixed n) input (refused s) y x z = absurd x
one_body (fixed n) input ended (got a r) short (is, whole) = absurd (omega (arith, is, short, ap length whole, length-append a r))
one_body (fixed n) input ended (refused s) x y = absurd y
one_body (fixed n) input ended ended x y = refl
one_body chunked input x y a b = one_chunked input x y (by_chunks input x a) (by_chunks input y b)
