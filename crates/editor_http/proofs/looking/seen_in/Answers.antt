use Rattle.std.proofs.Common.{◌≡◌, ℕ, ◌+◌, ◌^◌, ◌<◌, List, ◌++◌, length, take, drop, codes, decimal, Some, ap, sym, ◌∙◌, arith}
use Rattle.std.proofs.Math.Seq.{take-append-add}
use Rattle.std.proofs.lemmas.Grind.{common_steps}
use Rattle.httparse.specs.Grammar.{print_response}
use Rattle.httparse.specs.Spans.{IsResponseOf, IsResponseWithin}
use Rattle.http_read.specs.Checks.{values_of}
use Rattle.http_read.specs.Spans.{head_of}
use Rattle.editor_http.proofs.Nothing.{first_length, unstated_none, large_none, short_none}
use Rattle.editor_http.proofs.looking.seen_in.Goals as goal

front : (p held : List ℕ) (len n : ℕ) → held ≡ p ++ drop len held → len ≡ length p → take (len + n) held ≡ p ++ take n (drop len held)
front p held len n is of =
    ap (λ (xs : List ℕ). take (len + n) xs) is
    ∙ ap (λ (m : ℕ). take (m + n) (p ++ drop len held)) of
    ∙ take-append-add p (drop len held) n

pub returns-in_default : goal.returns-in_default
returns-in_default c =
    let held : List ℕ = c.args.held.now in
    let of : IsResponseOf held c.parse_response.new.headers c.in-Ok-Complete.head = rw c.in-Ok-Complete.field-0-is at c.in-Ok-Complete.ensures.complete in
    let none : (n : ℕ) → n < 2 ^ 64 → first_length of.0 ≡ Some (decimal n) → ⊥ =
    λ n fits is. c.in_default.ensures n fits (ap (λ fs. head_of (values_of (codes "content-length") fs)) of.1.fields ∙ is) in
    unstated_none held (drop c.in-Ok-Complete.head.len held) of.0 of.1.reads none

pub returns-then-stated-gt-MAX_BODY : goal.returns-then-stated-gt-MAX_BODY
returns-then-stated-gt-MAX_BODY c =
    let held : List ℕ = c.args.held.now in
    let of : IsResponseOf held c.parse_response.new.headers c.in-Ok-Complete.head = rw c.in-Ok-Complete.field-0-is at c.in-Ok-Complete.ensures.complete in
    let stated : first_length of.0 ≡ Some (decimal c.in-Some.stated) = ap (λ fs. head_of (values_of (codes "content-length") fs)) (sym of.1.fields) ∙ c.in-Some.ensures.1 in
    large_none held (drop c.in-Ok-Complete.head.len held) c.in-Some.stated of.0 of.1.reads stated c.in-Some.ensures.0 c.if-stated-gt-MAX_BODY.true

pub returns-then-length-behind : goal.returns-then-length-behind
returns-then-length-behind c =
    let held : List ℕ = c.args.held.now in
    let len : ℕ = c.in-Ok-Complete.head.len in
    let of : IsResponseOf held c.parse_response.new.headers c.in-Ok-Complete.head = rw c.in-Ok-Complete.field-0-is at c.in-Ok-Complete.ensures.complete in
    let stated : first_length of.0 ≡ Some (decimal c.in-Some.stated) = ap (λ fs. head_of (values_of (codes "content-length") fs)) (sym of.1.fields) ∙ c.in-Some.ensures.1 in
    let short : length (drop len held) < c.in-Some.stated = grind (arith, common_steps, c.if-length-behind.true) in
    short_none held (drop len held) c.in-Some.stated of.0 of.1.reads stated c.in-Some.ensures.0 short

pub returns : goal.returns
returns c =
    let held : List ℕ = c.args.held.now in
    let len : ℕ = c.in-Ok-Complete.head.len in
    let n : ℕ = c.in-Some.stated in
    let of : IsResponseOf held c.parse_response.new.headers c.in-Ok-Complete.head = rw c.in-Ok-Complete.field-0-is at c.in-Ok-Complete.ensures.complete in
    let body : c.in_ok-from_slice.field-0.items ≡ take n (drop len held) = grind (arith, common_steps, c.in_ok-from_slice.ensures.items) in
    let long : length c.in_ok-from_slice.field-0.items ≡ n = grind (arith, common_steps, c.in_ok-from_slice.ensures.len) in
    let within : IsResponseWithin held c.parse_response.new.headers c.in-Ok-Complete.head = rw c.in-Ok-Complete.field-0-is at c.in-Ok-Complete.ensures.within in (
      omega (arith, within.section.len_fits, c.if-length-behind.false),
      record {
        head = of.0;
        reads = (of.1.reads.0, front (print_response of.0) held len n of.1.reads.1 of.1.len ∙ ap (λ (xs : List ℕ). print_response of.0 ++ xs) (sym body));
        status_is = of.1.code;
        stated = ap (λ fs. head_of (values_of (codes "content-length") fs)) (sym of.1.fields) ∙ c.in-Some.ensures.1 ∙ ap (λ (m : ℕ). Some (decimal m)) (sym long);
      },
    )
