-- The transfer codings: values cut at commas, and what is kept of them.
use Rattle.std.proofs.Common.{◌≡◌, ℕ, ◌+◌, ◌<◌, Bool, true, false, not, if◌then◌else◌, List, [], ◌∷◌, ◌++◌, length, take, drop, get_or, codes, arith, sym, ap, refl, ◌∙◌, length-append}
use Rattle.std.specs.List.{All}
use Rattle.std.specs.Prelude.{◌==◌, nat_lt}
use Rattle.std.proofs.lemmas.List.{take-append-drop, drop_more}
use Rattle.std.proofs.lemmas.List.Splits.{slice_split_at, slice_split_none}
use Rattle.std.proofs.lemmas.List.Concat.{flat_map-append}
use Rattle.std.proofs.lemmas.List.Elements.{All-from_get_or}
use Rattle.std.proofs.lemmas.Grind.{common_steps}
use Rattle.httparse.specs.Grammar.{trim_ows}
use Rattle.httparse.specs.declared.spans.HeaderSpan.{HeaderSpan}
use Rattle.httparse.specs.Spans.{header_bytes}
use Rattle.http_read.specs.declared.codings.Codings.{Codings}
use Rattle.http_read.specs.Checks.{FieldPair, comma_parts, coding_in, codings_of, is_chunked_last, is_chunked, has_field_name}
use Rattle.http_read.specs.Codings.{Tells, codings_in}
use Rattle.http_read.specs.Spans.{covered}

no_comma : (value : List ℕ) (i : ℕ) → ((k : ℕ) → k < i → get_or value k 0 ≡ 44 → ⊥)
    → All (λ b. (b == 44) ≡ false) (take i value)
no_comma value i none = All-from_get_or (λ b. (b == 44) ≡ false) (take i value) 0
    (λ k below. let h = none k in grind (arith, common_steps))

-- the first comma ends the first part
pub cut_here : (value : List ℕ) (i : ℕ) → i < length value → get_or value i 0 ≡ 44
    → ((k : ℕ) → k < i → get_or value k 0 ≡ 44 → ⊥)
    → comma_parts value ≡ take i value ∷ comma_parts (drop (i + 1) value)
cut_here value i inside comma none =
    let whole : value ≡ take i value ++ 44 ∷ drop (i + 1) value =
    sym (take-append-drop i value) ∙ ap (λ t. take i value ++ t) (drop_more value i 0 inside ∙ ap (λ b. b ∷ drop (i + 1) value) comma) in
    ap comma_parts whole ∙ slice_split_at (λ b. b == 44) (take i value) 44 (drop (i + 1) value) (no_comma value i none) refl

-- without a comma there is one part
pub cut_nowhere : (value : List ℕ) → ((k : ℕ) → k < length value → get_or value k 0 ≡ 44 → ⊥) → comma_parts value ≡ value ∷ []
cut_nowhere value none =
    slice_split_none (λ b. b == 44) value (All-from_get_or (λ b. (b == 44) ≡ false) value 0
    (λ k below. let h = none k below in grind arith))

ends_push : (seen : List (List ℕ)) (coding : List ℕ) → is_chunked_last (seen ++ coding ∷ []) ≡ is_chunked coding
ends_push [] coding = refl
ends_push (x ∷ []) coding = refl
ends_push (x ∷ y ∷ ys) coding = ends_push (y ∷ ys) coding

coding_is : (part : List ℕ) (t : Bool) → (length (trim_ows part) == 0) ≡ t
    → coding_in part ≡ (if t then [] else trim_ows part ∷ [])
coding_is part t is = ap (λ b. if b then [] else trim_ows part ∷ []) is

any_push : (seen : List (List ℕ)) (coding : List ℕ) → true ≡ not (length (seen ++ coding ∷ []) == 0)
any_push [] coding = refl
any_push (x ∷ xs) coding = grind (arith, common_steps)

several_push : (seen : List (List ℕ)) (coding : List ℕ) → not (length seen == 0) ≡ nat_lt 1 (length (seen ++ coding ∷ []))
several_push [] coding = refl
several_push (x ∷ xs) coding = let h = length-append xs (coding ∷ []) in grind (arith, common_steps)

-- one coding more
pub tells_more : (old new : Codings) (seen : List (List ℕ)) (part : List ℕ) → Tells old seen → (length (trim_ows part) == 0) ≡ false
    → new.any ≡ true → new.several ≡ old.any → new.is_chunked_last ≡ is_chunked (trim_ows part) → Tells new (seen ++ coding_in part)
tells_more old new seen part told some any several ends =
    rw (coding_is part false some) record {
      any = any ∙ any_push seen (trim_ows part);
      several = several ∙ told.any ∙ several_push seen (trim_ows part);
      last = ends ∙ sym (ends_push seen (trim_ows part));
    }

-- the codings of one field line more
codings_cons : (f : FieldPair) (fields : List FieldPair) (t : Bool) → has_field_name (codes "transfer-encoding") f ≡ t
    → codings_of (f ∷ fields) ≡ (if t then codings_in f.1 else []) ++ codings_of fields
codings_cons f fields true named = rw named (flat_map-append coding_in (comma_parts f.1) _)
codings_cons f fields false named = rw named refl

-- and of the spans
pub codings_drop : (bytes : List ℕ) (fields : List HeaderSpan) (i : ℕ) (d : HeaderSpan) (t : Bool) → i < length fields
    → has_field_name (codes "transfer-encoding") (header_bytes bytes (get_or fields i d)) ≡ t
    → codings_of (covered bytes (drop i fields))
    ≡ (if t then codings_in (header_bytes bytes (get_or fields i d)).1 else []) ++ codings_of (covered bytes (drop (i + 1) fields))
codings_drop bytes fields i d t inside named =
    ap (λ rest. codings_of (covered bytes rest)) (drop_more fields i d inside)
    ∙ codings_cons (header_bytes bytes (get_or fields i d)) (covered bytes (drop (i + 1) fields)) t named
