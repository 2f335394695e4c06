-- Where no answer stands that is read.
use Rattle.std.proofs.Common.{◌≡◌, ℕ, ◌+◌, ◌^◌, ◌<◌, ◌≤◌, List, [], ◌∷◌, ◌++◌, length, take, drop, map, codes, decimal, Option, Some, None, IfSome, refl, ap, sym, subst, ◌∙◌, append-nil, length-append, arith}
use Rattle.std.proofs.lemmas.Fmt.{decimal_injective}
use Rattle.std.proofs.lemmas.List.{take-append-drop, take-append-le}
use Rattle.std.proofs.Math.Seq.{take-append_seam}
use Rattle.std.specs.Io.KnownBytes.{prepend_known, Keeps, Consumes, IsAtEnd}
use Rattle.httparse.specs.Grammar.{ResponseHead, ReadsResponse, HasNoResponse}
use Rattle.httparse.specs.Spans.{name_and_value, ResponseOverflows}
use Rattle.httparse.proofs.GrammarLemmas.{ReadsResponse-append, response_prefix_free}
use Rattle.http_read.specs.Checks.{values_of}
use Rattle.http_read.specs.Spans.{head_of}
use Rattle.editor_http.specs.Answers.{IsAnswer, IsReadable, HasNone}
use Rattle.editor_http.specs.declared.looking.TheConstants.{FIELDS, MAX_BODY}
use Rattle.editor_http.specs.declared.reading.TheConstants.{MOST}

-- the value of a head's first Content-Length line
abbrev pub first_length : ResponseHead → Option (List ℕ)
first_length h = head_of (values_of (codes "content-length") (map name_and_value h.fields))

at_front : (input bytes rest body : List ℕ) (h : ResponseHead) → input ≡ bytes ++ rest → ReadsResponse bytes h body → ReadsResponse input h (body ++ rest)
at_front input bytes rest body h is reads = subst (λ (xs : List ℕ). ReadsResponse xs h (body ++ rest)) (sym is) (ReadsResponse-append bytes h body rest reads)

-- too many field lines, or no head at all, whatever follows
pub overflow_none : (held : List ℕ) → ResponseOverflows FIELDS held → (more : List ℕ) → HasNone (held ++ more)
overflow_none held over more bytes rest status body is r =
    let many : FIELDS < length r.is.head.fields = over more r.is.head (body ++ rest) (at_front (held ++ more) bytes rest body r.is.head is r.is.reads) in
    omega (arith, many, r.few)

pub partial_none : (held : List ℕ) → HasNoResponse held → HasNone held
partial_none held none bytes rest status body is r = none r.is.head (body ++ rest) (at_front held bytes rest body r.is.head is r.is.reads)

same : (held more bytes rest behind body : List ℕ) (status : ℕ) (h : ResponseHead) → ReadsResponse held h behind → held ++ more ≡ bytes ++ rest → (a : IsAnswer bytes status body) → (h ≡ a.head) × (behind ++ more ≡ body ++ rest)
same held more bytes rest behind body status h reads is a = response_prefix_free held more h a.head behind (body ++ rest) reads (at_front (held ++ more) bytes rest body a.head is a.reads)

stated_by : (held more bytes rest behind body : List ℕ) (status : ℕ) (h : ResponseHead) → ReadsResponse held h behind → held ++ more ≡ bytes ++ rest → (a : IsAnswer bytes status body) → first_length h ≡ Some (decimal (length body))
stated_by held more bytes rest behind body status h reads is a =
    subst (λ (k : ResponseHead). first_length k ≡ Some (decimal (length body))) (sym (same held more bytes rest behind body status h reads is a).0) a.stated

some_is : (x y : List ℕ) → Some x ≡ Some y → x ≡ y
some_is x y is = cc

-- the head states no length
pub unstated_none : (held behind : List ℕ) (h : ResponseHead) → ReadsResponse held h behind → ((n : ℕ) → n < 2 ^ 64 → first_length h ≡ Some (decimal n) → ⊥) → (more : List ℕ) → HasNone (held ++ more)
unstated_none held behind h reads none more bytes rest status body is r =
    let fits : length body < 2 ^ 64 = omega (arith, r.short) in
    none (length body) fits (stated_by held more bytes rest behind body status h reads is r.is)

same_length : (held more bytes rest behind body : List ℕ) (status n : ℕ) (h : ResponseHead) → ReadsResponse held h behind → held ++ more ≡ bytes ++ rest → (r : IsReadable bytes status body) → first_length h ≡ Some (decimal n) → n < 2 ^ 64 → n ≡ length body
same_length held more bytes rest behind body status n h reads is r stated fits =
    let short : length body < 2 ^ 64 = omega (arith, r.short) in
    decimal_injective n (length body) fits short (some_is (decimal n) (decimal (length body)) (sym stated ∙ stated_by held more bytes rest behind body status h reads is r.is))

-- it states a length that is too large
pub large_none : (held behind : List ℕ) (n : ℕ) (h : ResponseHead) → ReadsResponse held h behind → first_length h ≡ Some (decimal n) → n < 2 ^ 64 → MAX_BODY < n → (more : List ℕ) → HasNone (held ++ more)
large_none held behind n h reads stated fits large more bytes rest status body is r =
    let long : n ≡ length body = same_length held more bytes rest behind body status n h reads is r stated fits in
    omega (arith, long, large, r.short)

-- the body isn't there yet
pub short_none : (held behind : List ℕ) (n : ℕ) (h : ResponseHead) → ReadsResponse held h behind → first_length h ≡ Some (decimal n) → n < 2 ^ 64 → length behind < n → HasNone held
short_none held behind n h reads stated fits short bytes rest status body is r =
    let is_more : held ++ [] ≡ bytes ++ rest = append-nil held ∙ is in
    let long : n ≡ length body = same_length held [] bytes rest behind body status n h reads is_more r stated fits in
    let behind_is : behind ++ [] ≡ body ++ rest = (same held [] bytes rest behind body status h reads is_more r.is).1 in
    let lengths : length behind ≡ length body + length rest = ap length (sym (append-nil behind) ∙ behind_is) ∙ length-append body rest in
    omega (arith, long, lengths, short)

-- more bytes are held than an answer has
pub long_none : (held : List ℕ) → MOST ≤ length held → HasNone held → (more : List ℕ) → HasNone (held ++ more)
long_none held long none more bytes rest status body is r =
    let within : length bytes ≤ length held = omega (arith, long, r.brief) in
    let front : take (length bytes) held ≡ bytes = sym (take-append-le (length bytes) held more within) ∙ ap (take (length bytes)) is ∙ take-append_seam bytes rest in
    let parts : held ≡ bytes ++ drop (length bytes) held = sym (take-append-drop (length bytes) held) ∙ ap (λ (xs : List ℕ). xs ++ drop (length bytes) held) front in
    none bytes (drop (length bytes) held) status body parts r

-- of an input that is known
pub known_none : (known rest : Option (List ℕ)) (held : List ℕ) → Keeps known (prepend_known held rest) → ((more : List ℕ) → HasNone (held ++ more)) → IfSome known HasNone
known_none None rest held same none = tt
known_none (Some xs) None held same none = absurd same
known_none (Some xs) (Some ys) held same none = subst HasNone same (none ys)

-- of one that has ended
pub ended_none : (known rest after : Option (List ℕ)) (held more : List ℕ) → Keeps known (prepend_known held rest) → Consumes rest after more → IsAtEnd after → held ≡ held ++ more → HasNone held → IfSome known HasNone
ended_none None rest after held more same taken over longer none = tt
ended_none (Some xs) None after held more same taken over longer none = absurd same
ended_none (Some xs) (Some ys) None held more same taken over longer none = absurd taken
ended_none (Some xs) (Some ys) (Some zs) held more same taken over longer none =
    let nothing : length more ≡ 0 = omega (arith, ap length longer, length-append held more) in
    let rest : length ys ≡ 0 = omega (arith, ap length taken, length-append more zs, nothing, ap length over) in
    let left : ys ≡ [] = empty ys rest in
    subst HasNone (sym (ap (λ (ws : List ℕ). held ++ ws) left ∙ append-nil held) ∙ same) none
  where
    empty : (ws : List ℕ) → length ws ≡ 0 → ws ≡ []
    empty [] is = refl
    empty (w ∷ ws) is = absurd (omega (arith, is))
