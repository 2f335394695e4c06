use Rattle.std.proofs.Common.{◌≡◌, ◌∙◌, List, ℕ, [], ◌∷◌, ◌++◌, ap, sym, refl, subst, append_assoc, append-nil}
use Rattle.std.specs.List.{flat_map}
use Rattle.http_read.specs.Checks.{comma_parts, coding_in}
use Rattle.http_read.specs.Codings.{Tells, codings_in}
use Rattle.http_read.proofs.codings.with_value.Goals as goal

cut_off : (rest part after : List ℕ) → comma_parts rest ≡ part ∷ comma_parts after → codings_in rest ≡ coding_in part ++ codings_in after
cut_off rest part after is = ap (flat_map coding_in) is

uncut : (rest : List ℕ) → comma_parts rest ≡ rest ∷ [] → codings_in rest ≡ coding_in rest
uncut rest is = ap (flat_map coding_in) is ∙ append-nil (coding_in rest)

pub loop-part-init : goal.loop-part-init
loop-part-init c = λ seen told. ([], subst (Tells c.args.codings) (sym (append-nil seen)) told, refl)

pub loop-part-preserved : goal.loop-part-preserved
loop-part-preserved c = λ seen told.
    let part = c.in-Some.part.now in
    let m = c.loop-part.invariant seen told in (
      m.0 ++ coding_in part,
      subst (Tells c.with_part-now.result) (append_assoc seen m.0 (coding_in part)) (c.with_part-now.ensures (seen ++ m.0) m.1),
      m.2 ∙ ap (λ l. m.0 ++ l) (cut_off c.loop-part.rest.now part c.in-Some.after.now c.in-Some.ensures.0) ∙ sym (append_assoc m.0 (coding_in part) (codings_in c.in-Some.after.now)),
    )

pub returns : goal.returns
returns c = λ seen told.
    let rest = c.loop-part.rest.now in
    let m = c.loop-part.invariant seen told in
    let all : codings_in c.args.value.now ≡ m.0 ++ coding_in rest = m.2 ∙ ap (λ l. m.0 ++ l) (uncut rest (rw c.in_default.is at c.cut_at_comma.ensures)) in
    subst (Tells c.with_part.result) (append_assoc seen m.0 (coding_in rest) ∙ ap (λ l. seen ++ l) (sym all)) (c.with_part.ensures (seen ++ m.0) m.1)
