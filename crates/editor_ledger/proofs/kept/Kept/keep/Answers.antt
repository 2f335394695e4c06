use Rattle.std.proofs.Common.{◌≡◌, [], ◌∷◌, ◌++◌, map, filter, not, string_bytes, sym, ap, subst, ◌∙◌, rules}
use Rattle.std.proofs.lemmas.List.{map-append}
use Rattle.editor_ledger.specs.Heads.{are_about_one}
use Rattle.editor_ledger.specs.Steps.{with_text}
use Rattle.editor_ledger.specs.Subjects.{Bounds}
use Rattle.editor_ledger.proofs.kept.Kept.keep.Goals as goal

pub invariant_of-self-in_err-make_way : goal.invariant_of-self-in_err-make_way
invariant_of-self-in_err-make_way c =
    subst (λ ts. Bounds c.make_way.new.known (map string_bytes ts)) (sym (c.in_err-make_way.ensures.err ∙ c.in_ok-reserve.ensures.items))
    (c.in_err-make_way.ensures.err_bounds (map string_bytes c.self.inside.texts.items) c.self.invariant)

-- the texts are those that the definition has
whole : (c : goal.After-push_reserved) → map string_bytes c.push_reserved.new.self.items ≡ with_text (string_bytes c.args.text) (map string_bytes c.self.inside.texts.items)
whole c =
    let bounds : Bounds c.self.inside.several (map string_bytes c.reserve.new.self.items) = subst (λ ts. Bounds c.self.inside.several (map string_bytes ts)) (sym c.in_ok-reserve.ensures.items) c.self.invariant in
    let others = c.in_ok-make_way.ensures.others bounds in
    ap (map string_bytes) c.push_reserved.ensures.items
    ∙ map-append string_bytes c.make_way.new.kept.items (c.args.text ∷ [])
    ∙ ap (λ ts. ts ++ (string_bytes c.args.text ∷ []))
    (others
    ∙ ap (λ t. filter (λ u. not (are_about_one t u)) (map string_bytes c.reserve.new.self.items)) c.as_str.ensures.value
    ∙ ap (λ ts. filter (λ u. not (are_about_one (string_bytes c.args.text) u)) (map string_bytes ts)) c.in_ok-reserve.ensures.items)

pub invariant_of-self-2 : goal.invariant_of-self-2
invariant_of-self-2 c =
    let bounds = c.in_ok-make_way.ensures.bounds (map string_bytes c.self.inside.texts.items) c.self.invariant in
    subst (λ ts. Bounds c.make_way.new.known ts) (sym (whole c))
    (subst (λ t. Bounds c.make_way.new.known (with_text t (map string_bytes c.self.inside.texts.items))) c.as_str.ensures.value bounds)

pub returns-clause-ok : goal.returns-clause-ok
returns-clause-ok c = whole c ∙ ap (with_text (string_bytes c.args.text)) (search rules)
