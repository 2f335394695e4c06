-- What the search for a trailer section finds.
use Rattle.std.proofs.Common.{◌≡◌, ℕ, ◌<◌, ◌≤◌, List, ◌++◌, length, take, drop, arith, sym, ap, subst, refl, ◌∙◌, append_assoc, append-nil, [], inl, inr}
use Rattle.std.proofs.lemmas.List.{take-append-drop, drop-append-le, length-take, length-map}
use Rattle.std.proofs.Math.Seq.{drop-append_seam}
use Rattle.http_read.specs.declared.heads.TheConstants.{HEAD_LIMIT}
use Rattle.httparse.specs.declared.spans.HeaderSpan.{HeaderSpan}
use Rattle.httparse.specs.Grammar.{Field, LineEnd, print_section, ReadsSection, HasNoSection, NeverHasSection, MayBecomeSection}
use Rattle.httparse.specs.Spans.{IsSectionWithin, IsSectionOf, header_bytes, name_and_value}
use Rattle.httparse.proofs.GrammarLemmas.{ReadsSection-append}
use Rattle.http_read.specs.Heads.{window}
use Rattle.http_read.specs.Sections.{SeesSection}
use Rattle.http_read.specs.BodySteps.{ShowsTrailer}
use Rattle.http_read.specs.declared.trailers.TrailerRead.TheVariants as trailer
use Rattle.http_read.specs.declared.trailers.Section.TheVariants.{Whole, Never, Open}

-- what the parser answers
pub sees_whole : (bytes : List ℕ) (headers : List HeaderSpan) (len count : ℕ) → IsSectionWithin bytes headers len count
    → IsSectionOf bytes 0 headers (len, count) → SeesSection bytes (Whole len count)
sees_whole bytes headers len count within (fields, last, at) = (
  fields,
  last,
  at.reads,
  omega (arith, at.len_is),
  omega (
    arith,
    within.count_fits,
    length-take count headers,
    length-map (take count headers) (header_bytes bytes),
    length-map fields name_and_value,
    ap length at.fields_are,
  ),
  within.len_fits,
)

-- a section of the first bytes is one of the input
section_of_front : (n len count : ℕ) (held more : List ℕ) (fields : List Field) (last : LineEnd)
    → ReadsSection (take n held) fields last (drop len (take n held)) → len ≡ length (print_section fields last) → len ≤ length (take n held)
    → ReadsSection (held ++ more) fields last (drop len held ++ more)
section_of_front n len count held more fields last reads is within =
    let joined : take n held ++ (drop n held ++ more) ≡ held ++ more =
    sym (append_assoc (take n held) (drop n held) more) ∙ ap (λ t. t ++ more) (take-append-drop n held) in
    let whole : ReadsSection (held ++ more) fields last (drop len (take n held) ++ (drop n held ++ more)) =
    subst (λ text. ReadsSection text fields last (drop len (take n held) ++ (drop n held ++ more))) joined
    (ReadsSection-append (take n held) fields last (drop len (take n held)) (drop n held ++ more) reads) in
    let fits : len ≤ length held = omega (arith, within, length-take n held) in
    let rest : drop len held ++ more ≡ drop len (take n held) ++ (drop n held ++ more) =
    sym (drop-append-le len held more fits) ∙ ap (drop len) whole.1 ∙ ap (λ k. drop k (print_section fields last ++ (drop len (take n held) ++ (drop n held ++ more)))) is
    ∙ drop-append_seam (print_section fields last) (drop len (take n held) ++ (drop n held ++ more)) in
    (whole.0, whole.1 ∙ ap (λ t. print_section fields last ++ t) (sym rest))

-- the same without more
section_held : (len count : ℕ) (held : List ℕ) (fields : List Field) (last : LineEnd)
    → ReadsSection (window held) fields last (drop len (window held)) → len ≡ length (print_section fields last) → len ≤ length (window held)
    → ReadsSection held fields last (drop len held)
section_held len count held fields last reads is within =
    subst (λ rest. ReadsSection held fields last rest) (append-nil (drop len held))
    (subst (λ t. ReadsSection t fields last (drop len held ++ [])) (append-nil held)
    (section_of_front HEAD_LIMIT len count held [] fields last reads is within))

pub trailer_whole : (held bytes left : List ℕ) (len count : ℕ) → bytes ≡ window held → SeesSection bytes (Whole len count) → count ≤ 64
    → left ≡ drop len held → ShowsTrailer trailer.Whole held left
trailer_whole held bytes left len count same seen few is =
    let s = subst (λ b. SeesSection b (Whole len count)) same seen in (
      s.0,
      (
        s.1,
        subst (λ rest. ReadsSection held s.0 s.1 rest) (sym is) (section_held len count held s.0 s.1 s.2 s.3 s.5),
        omega (arith, s.3, s.5, length-take HEAD_LIMIT held),
        omega (arith, s.4, few),
      ),
    )

pub trailer_many : (held bytes left : List ℕ) (len count : ℕ) → bytes ≡ window held → SeesSection bytes (Whole len count) → 64 < count
    → ShowsTrailer (trailer.Refused 431) held left
trailer_many held bytes left len count same seen many =
    let s = subst (λ b. SeesSection b (Whole len count)) same seen in
    inr (inr (
      refl,
      (
        s.0,
        s.1,
        drop len held,
        section_held len count held s.0 s.1 s.2 s.3 s.5,
        omega (arith, s.3, s.5, length-take HEAD_LIMIT held),
        omega (arith, s.4, many),
      ),
    ))

pub trailer_never : (held bytes left : List ℕ) → bytes ≡ window held → SeesSection bytes Never → ShowsTrailer (trailer.Refused 400) held left
trailer_never held bytes left same never = inl (refl, subst NeverHasSection same never)

pub trailer_long : (held bytes left : List ℕ) → bytes ≡ window held → SeesSection bytes Open → HEAD_LIMIT < length held
    → ShowsTrailer (trailer.Refused 431) held left
trailer_long held bytes left same wanted full =
    inr (inl (refl, subst HasNoSection same wanted.0, subst MayBecomeSection same wanted.1, full))

pub trailer_short : (held bytes : List ℕ) → bytes ≡ window held → SeesSection bytes Open → length held ≤ HEAD_LIMIT
    → ShowsTrailer trailer.Open held held
trailer_short held bytes same wanted short = ((subst HasNoSection same wanted.0, subst MayBecomeSection same wanted.1, short), refl)

pub section_fits_held : (held bytes : List ℕ) (len count : ℕ) → bytes ≡ window held → SeesSection bytes (Whole len count) → len ≤ length held
section_fits_held held bytes len count same seen = omega (arith, seen.5, ap length same, length-take HEAD_LIMIT held)
