use Rattle.std.proofs.Common.{◌≡◌, ◌∷◌, [], ◌++◌, map, filter, not, None, Some, string_bytes, sym, ap, subst, ◌∙◌, rules}
use Rattle.editor_ledger.specs.Heads.{head_of, is_same_subject}
use Rattle.editor_ledger.specs.Subjects.{Bounds}
use Rattle.editor_ledger.specs.View.{head_view}
use Rattle.editor_ledger.proofs.LookUps.{same_none}
use Rattle.editor_ledger.proofs.SubjectCounts.{about_none, at_most_one, nothing_out}
use Rattle.editor_ledger.proofs.kept.make_way.Goals as goal

pub returns-in_default-clause-others : goal.returns-in_default-clause-others
returns-in_default-clause-others c = λ bounds. sym (same_none c.args.text.now (map string_bytes c.args.kept.now.items) (search rules))

pub returns-in_default-clause-bounds : goal.returns-in_default-clause-bounds
returns-in_default-clause-bounds c = λ texts bounds.
    let none : head_of c.args.text.now ≡ None = search rules in
    subst (λ ts. Bounds c.args.known.now (ts ++ c.args.text.now ∷ [])) (sym (same_none c.args.text.now texts none)) (about_none c.args.known.now c.args.text.now none texts bounds)

pub returns-in-Some-2-clause-others : goal.returns-in-Some-2-clause-others
returns-in-Some-2-clause-others c = λ bounds.
    let is : head_of c.args.text.now ≡ Some (head_view c.in-Some.head) = search rules in
    c.take_out.ensures.others (λ one. at_most_one c.args.known.now (head_view c.in-Some.head) c.in-Some-2.several (map string_bytes c.args.kept.now.items) (search rules) one bounds)
    ∙ ap (λ o. filter (λ t. not (is_same_subject o (head_of t))) (map string_bytes c.args.kept.now.items)) (sym is)

pub returns-in_default-2-clause-others : goal.returns-in_default-2-clause-others
returns-in_default-2-clause-others c = λ bounds.
    sym (nothing_out c.args.known.now c.args.text.now (head_view c.in-Some.head) (search rules) (search rules) (map string_bytes c.args.kept.now.items) bounds)
