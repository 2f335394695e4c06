-- So many bytes are no more than a third as many field lines.
use Rattle.std.proofs.Common.{ℕ, ◌+◌, ◌*◌, ◌<◌, ◌≤◌, List, [], ◌∷◌, ◌++◌, length, All, arith, length-append, ap}
use Rattle.std.specs.List.{flat_map}
use Rattle.std.proofs.lemmas.List.Elements.{All-head, All-tail}
use Rattle.http_read.specs.declared.heads.TheConstants.{HEAD_LIMIT}
use Rattle.httparse.specs.Grammar.{Field, IsField, LineEnd, lf, print_end, print_field, print_section, RequestHead, print_request, print_blank, print_version}
use Rattle.httparse.specs.Spans.{RequestExceeds, SectionExceeds}
use Rattle.httparse.specs.Ascii.{space, colon}

-- a line break has a byte
end_some : (last : LineEnd) → 1 ≤ length (print_end last)
end_some LineEnd.crlf = omega arith
end_some LineEnd.lf = omega arith

-- a field line has a name, a colon and a line break
field_some : (f : Field) → IsField f → 3 ≤ length (print_field f)
field_some f is =
    omega (arith, is.name.0, end_some f.end, length-append (f.name ++ colon ∷ f.raw) (print_end f.end), length-append f.name (colon ∷ f.raw))

-- each field line has three bytes
fields_fit : (fields : List Field) → All IsField fields → 3 * length fields ≤ length (flat_map print_field fields)
fields_fit [] each = omega arith
fields_fit (f ∷ fields) each =
    omega (arith, field_some f (All-head IsField f fields each), fields_fit fields (All-tail IsField f fields each), length-append (print_field f) (flat_map print_field fields))

-- and the section has one more
pub section_fits : (fields : List Field) (last : LineEnd) → All IsField fields → 3 * length fields + 1 ≤ length (print_section fields last)
section_fits fields last each =
    omega (arith, fields_fit fields each, length-append (flat_map print_field fields) (print_end last), end_some last)

-- so has a head
pub head_fits : (h : RequestHead) → All IsField h.fields → 3 * length h.fields + 1 ≤ length (print_request h)
unfolding print_request
head_fits h each =
    let start : List ℕ = print_blank h.blank
    ++ h.method ++ space ∷ h.target ++ space ∷ print_version h.minor ++ print_end h.line_end in
    omega (arith, section_fits h.fields h.last each, length-append start (print_section h.fields h.last))

-- room that a short head exceeds
pub room_of_head : (room : ℕ) (bytes : List ℕ) → length bytes ≤ HEAD_LIMIT → RequestExceeds room bytes → room < 2730
room_of_head room bytes short (front, rest, begins, h, reads, many) =
    omega (
      arith,
      head_fits h reads.0.fields,
      ap length begins,
      length-append front rest,
      ap length reads.1,
      length-append front (print_end lf),
      length-append (print_request h) [],
    )

-- and a short section
pub room_of_section : (room : ℕ) (bytes : List ℕ) → length bytes ≤ HEAD_LIMIT → SectionExceeds room bytes → room < 2730
room_of_section room bytes short (front, rest, begins, fields, reads, many) =
    omega (
      arith,
      section_fits fields lf reads.0,
      ap length begins,
      length-append front rest,
      ap length reads.1,
      length-append front (print_end lf),
      length-append (print_section fields lf) [],
    )
