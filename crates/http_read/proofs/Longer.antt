-- An answer stands when more bytes follow.
use Rattle.std.proofs.Common.{◌≡◌, ℕ, ◌+◌, ◌-◌, ◌<◌, ◌≤◌, List, ◌++◌, length, take, drop, if◌then◌else◌, Bool, arith, sym, ap, subst, refl, ◌∙◌, append_assoc, length-append, inl, inr}
use Rattle.std.proofs.lemmas.List.{take-append-le, drop-append-le, get_or_append_left, length-drop}
use Rattle.std.specs.List.{flat_map}
use Rattle.http_read.specs.declared.heads.TheConstants.{HEAD_LIMIT}
use Rattle.httparse.specs.Grammar.{RequestHead, HasNoRequest, MayBecomeRequest, Field, LineEnd, ChunkLine, print_chunk_line, chunk_size, print_section, ReadsSection, HasNoSection, NeverHasSection, MayBecomeSection}
use Rattle.httparse.proofs.GrammarLemmas.{ReadsRequest-append}
use Rattle.http_read.specs.Heads.{got, refused, window, is_long_line, IsUnfinishedHead, ReadsHead, ReadsTrailer}
use Rattle.http_read.specs.Checks.{Framing, fixed, chunked, pairs_of, framing_of}
use Rattle.http_read.specs.Bodies.{Chunk, print_chunk, chunks_joined, BeginsWithChunks, BeginsWithLine, IsFirstLine, IsNoLine, EndsChunks, ReadsBody}
use Rattle.http_read.specs.Requests.{asks, refuses, stops, ends, Follows}
use Rattle.http_read.specs.Laws.{AnswerStands}
use Rattle.http_read.proofs.Windows.{take_goes_on, never_in_more}

-- the status of a full window
abbrev overlong_of : List ℕ → ℕ
overlong_of front = if is_long_line front then 414 else 431

-- the window of a long input is that of a longer one
same_window : (input more : List ℕ) → HEAD_LIMIT < length input → window (input ++ more) ≡ window input
same_window input more long = take-append-le HEAD_LIMIT input more (omega (arith, long))

longer : (input more : List ℕ) → HEAD_LIMIT < length input → HEAD_LIMIT < length (input ++ more)
longer input more long = omega (arith, long, length-append input more)

unfinished_still : (input more : List ℕ) → HEAD_LIMIT < length input → IsUnfinishedHead input → IsUnfinishedHead (input ++ more)
unfinished_still input more long u = record {
  none = subst HasNoRequest (sym (same_window input more long)) u.none;
  mendable = subst MayBecomeRequest (sym (same_window input more long)) u.mendable;
}

pub got_still : (input more : List ℕ) (head : RequestHead) (rest : List ℕ) → ReadsHead input (got head rest) → ReadsHead (input ++ more) (got head (rest ++ more))
got_still input more head rest begins = record {
  reads = ReadsRequest-append input head rest more begins.reads;
  short = begins.short;
}

refused_still : (input more : List ℕ) (status : ℕ) → ReadsHead input (refused status) → ReadsHead (input ++ more) (refused status)
refused_still input more status (inl (is, never)) = inl (is, never_in_more HEAD_LIMIT input more never)
refused_still input more status (inr (u, long, is)) =
    inr (unfinished_still input more long u, longer input more long, is ∙ ap overlong_of (sym (same_window input more long)))

-- ---- trailers

section_longer : (buf : List ℕ) (fields : List Field) (last : LineEnd) (rest more : List ℕ) → ReadsSection buf fields last rest → ReadsSection (buf ++ more) fields last (rest ++ more)
section_longer buf fields last rest more reads =
    (reads.0, ap (λ t. t ++ more) reads.1 ∙ append_assoc (print_section fields last) rest more)

never_section_goes_on : (bytes w : List ℕ) → NeverHasSection bytes → NeverHasSection (bytes ++ w)
never_section_goes_on bytes w never = λ more fields last rest reads.
    never (w ++ more) fields last rest (subst (λ text. ReadsSection text fields last rest) (append_assoc bytes w more) reads)

never_section_in_more : (input more : List ℕ) → NeverHasSection (window input) → NeverHasSection (window (input ++ more))
never_section_in_more input more never =
    let r = take_goes_on HEAD_LIMIT input more in
    subst NeverHasSection (sym r.1) (never_section_goes_on (window input) r.0 never)

trailer_got : (input more : List ℕ) (fields : List Field) (rest : List ℕ) → ReadsTrailer input (got fields rest) → ReadsTrailer (input ++ more) (got fields (rest ++ more))
trailer_got input more fields rest (last, reads, short, few) = (last, section_longer input fields last rest more reads, short, few)

trailer_refused : (input more : List ℕ) (status : ℕ) → ReadsTrailer input (refused status) → ReadsTrailer (input ++ more) (refused status)
trailer_refused input more status (inl (is, never)) = inl (is, never_section_in_more input more never)
trailer_refused input more status (inr (inl (is, none, may, long))) =
    inr (inl (is, subst HasNoSection (sym (same_window input more long)) none, subst MayBecomeSection (sym (same_window input more long)) may, longer input more long))
trailer_refused input more status (inr (inr (is, (fields, last, rest, reads, short, many)))) =
    inr (inr (is, (fields, last, rest ++ more, section_longer input fields last rest more reads, short, many)))

-- ---- chunks

line_longer : (tail : List ℕ) (line : ChunkLine) (rest more : List ℕ) → BeginsWithLine tail line rest → BeginsWithLine (tail ++ more) line (rest ++ more)
line_longer tail line rest more begins = record {
  is_line = begins.is_line;
  whole = ap (λ t. t ++ more) begins.whole ∙ append_assoc (print_chunk_line line) rest more;
}

pub chunks_longer : (input : List ℕ) (chunks : List Chunk) (tail more : List ℕ) → BeginsWithChunks input chunks tail → BeginsWithChunks (input ++ more) chunks (tail ++ more)
chunks_longer input chunks tail more begins = record {
  each = begins.each;
  whole = ap (λ t. t ++ more) begins.whole ∙ append_assoc (flat_map print_chunk chunks) tail more;
  small = begins.small;
}

first_line_longer : (tail more : List ℕ) (n : ℕ) → IsFirstLine tail n → IsFirstLine (tail ++ more) n
first_line_longer tail more n first = record {
  some = first.some;
  within = omega (arith, first.within, length-append tail more);
  short = first.short;
  feed = get_or_append_left tail more 0 (n - 1) (omega (arith, first.some, first.within)) ∙ first.feed;
  before = λ k below is. first.before k below (sym (get_or_append_left tail more 0 k (omega (arith, below, first.within))) ∙ is);
}

no_line_longer : (tail more : List ℕ) → IsNoLine tail → IsNoLine (tail ++ more)
no_line_longer tail more (inl (long, none)) = inl (
  omega (arith, long, length-append tail more),
  λ k below within is. none k below (omega (arith, below, long)) (sym (get_or_append_left tail more 0 k (omega (arith, below, long))) ∙ is),
)
no_line_longer tail more (inr (n, first, bad)) = inr (
  n,
  first_line_longer tail more n first,
  λ line ok is. bad line ok (sym (take-append-le n tail more first.within) ∙ is),
)

-- two bytes within what is there
same_two : (behind more : List ℕ) (n : ℕ) → n + 2 ≤ length behind → take 2 (drop n (behind ++ more)) ≡ take 2 (drop n behind)
same_two behind more n enough =
    ap (take 2) (drop-append-le n behind more (omega (arith, enough)))
    ∙ take-append-le 2 (drop n behind) more (omega (arith, enough, length-drop n behind))

ends_got : (n : ℕ) (tail more : List ℕ) (fields : List Field) (rest : List ℕ) → EndsChunks n tail (got fields rest) → EndsChunks n (tail ++ more) (got fields (rest ++ more))
ends_got n tail more fields rest (line, behind, begins, none, trailer) =
    (line, behind ++ more, line_longer tail line behind more begins, none, trailer_got behind more fields rest trailer)

ends_refused : (n : ℕ) (tail more : List ℕ) (status : ℕ) → EndsChunks n tail (refused status) → EndsChunks n (tail ++ more) (refused status)
ends_refused n tail more status (inl (is, bad)) = inl (is, no_line_longer tail more bad)
ends_refused n tail more status (inr (line, behind, begins, inl (is, large))) =
    inr (line, behind ++ more, line_longer tail line behind more begins, inl (is, large))
ends_refused n tail more status (inr (line, behind, begins, inr (inl (is, some, small, enough, wrong)))) =
    inr (
      line,
      behind ++ more,
      line_longer tail line behind more begins,
      inr (inl (
        is,
        some,
        small,
        omega (arith, enough, length-append behind more),
        λ same. wrong (sym (same_two behind more (chunk_size line) enough) ∙ same),
      )),
    )
ends_refused n tail more status (inr (line, behind, begins, inr (inr (none, trailer)))) =
    inr (line, behind ++ more, line_longer tail line behind more begins, inr (inr (none, trailer_refused behind more status trailer)))

-- ---- bodies

body_got : (framing : Framing) (input more body left : List ℕ) → ReadsBody framing input (got body left) → ReadsBody framing (input ++ more) (got body (left ++ more))
body_got (fixed n) input more body left (size, whole) = (size, ap (λ t. t ++ more) whole ∙ append_assoc body left more)
body_got chunked input more body left (chunks, tail, begins, is, (fields, closes)) =
    (chunks, tail ++ more, chunks_longer input chunks tail more begins, is, (fields, ends_got (length body) tail more fields left closes))

body_refused : (framing : Framing) (input more : List ℕ) (status : ℕ) → ReadsBody framing input (refused status) → ReadsBody framing (input ++ more) (refused status)
body_refused (fixed n) input more status never = absurd never
body_refused chunked input more status (chunks, tail, begins, closes) =
    (chunks, tail ++ more, chunks_longer input chunks tail more begins, ends_refused (length (chunks_joined chunks)) tail more status closes)

-- ---- requests

refusal_still : (head : RequestHead) (rest more : List ℕ) (status : ℕ) (of_head : Bool) → Follows head rest (refuses status of_head) → Follows head (rest ++ more) (refuses status of_head)
refusal_still head rest more status of_head (is, inl fails) = (is, inl fails)
refusal_still head rest more status of_head (is, inr (inl none)) = (is, inr (inl none))
refusal_still head rest more status of_head (is, inr (inr (passes, path, body))) =
    (is, inr (inr (passes, path, body_refused (framing_of (pairs_of head)) rest more status body)))

pub stands : (input : List ℕ) → AnswerStands input
stands input more (asks request left) open_end none (head, rest, begins, (passes, method, path, keep, body)) = (
  head,
  rest ++ more,
  got_still input more head rest begins,
  (passes, method, path, keep, body_got (framing_of (pairs_of head)) rest more request.body left body),
)
stands input more (refuses status of_head) open_end none (inl (is, r)) = inl (is, refused_still input more status r)
stands input more (refuses status of_head) open_end none (inr (head, rest, begins, follows)) =
    inr (head, rest ++ more, got_still input more head rest begins, refusal_still head rest more status of_head follows)
stands input more stops open_end none answers = absurd (open_end refl)
stands input more ends open_end none answers = absurd (none refl)
