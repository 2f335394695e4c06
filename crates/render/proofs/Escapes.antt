-- Escaping a text cut at a byte.
use Rattle.std.proofs.Common.{◌≡◌, ℕ, suc, ◌<◌, ◌+◌, true, List, ◌∷◌, ◌++◌, length, take, drop, get_or, Result, Ok, Err, OnErr, String, Global, string_bytes, sym, ap, subst, ◌∙◌, arith, append_assoc, length-append, add-one}
use Rattle.std.proofs.Math.Seq.{drop-cons, take-append_seam}
use Rattle.std.proofs.lemmas.Str.{IsUtf8-string_bytes, IsCharBoundary-from_take}
use Rattle.std.specs.Str.{IsUtf8, IsCharBoundary}
use Rattle.std.specs.Result.{is_err}
use Rattle.std.specs.declared.alloc.AllocError.{AllocError}
use Rattle.std.proofs.lemmas.List.{take-append-drop}
use Rattle.std.proofs.lemmas.Grind.{flat_map-append}
use Rattle.render.specs.Printed.{escaped_byte, escaped}

pub escaped_at : (t : List ℕ) (i : ℕ) (e : List ℕ) → i < length t → escaped (take i t) ≡ take i t → escaped_byte (get_or t i 0) ≡ e
    → escaped t ≡ take i t ++ e ++ escaped (drop (i + 1) t)
escaped_at t i e within plain here =
    let is : t ≡ take i t ++ get_or t i 0 ∷ drop (suc i) t = sym (take-append-drop i t) ∙ ap (λ ys. take i t ++ ys) (drop-cons t i 0 within) in
    ap escaped is ∙ flat_map-append escaped_byte (take i t) (get_or t i 0 ∷ drop (suc i) t)
    ∙ ap (λ xs. xs ++ (escaped_byte (get_or t i 0) ++ escaped (drop (suc i) t))) plain
    ∙ ap (λ xs. take i t ++ (xs ++ escaped (drop (suc i) t))) here
    ∙ sym (append_assoc (take i t) e (escaped (drop (suc i) t)))
    ∙ ap (λ n. take i t ++ e ++ escaped (drop n t)) (sym (add-one i))

from_err : (P : Type 0) (r : Result (Unit {0}) AllocError) → true ≡ is_err r → OnErr r P → P
from_err P (Ok done) h p = absurd (cc)
from_err P (Err e) h p = p

-- a text that was added to can be cut where it ended
pub where_it_ended : (o n : String Global) (r : Result (Unit {0}) AllocError) → true ≡ is_err r → OnErr r ((more : List ℕ) × (string_bytes n ≡ string_bytes o ++ more))
    → IsCharBoundary (string_bytes n) (length (string_bytes o))
where_it_ended o n r failed h =
    let p = from_err ((more : List ℕ) × (string_bytes n ≡ string_bytes o ++ more)) r failed h in
    let front : take (length (string_bytes o)) (string_bytes n) ≡ string_bytes o = ap (take (length (string_bytes o))) p.1 ∙ take-append_seam (string_bytes o) p.0 in
    let long = ap length p.1 ∙ length-append (string_bytes o) p.0 in
    IsCharBoundary-from_take (string_bytes n) (length (string_bytes o)) (IsUtf8-string_bytes n) (omega (arith, long)) (subst IsUtf8 (sym front) (IsUtf8-string_bytes o))
