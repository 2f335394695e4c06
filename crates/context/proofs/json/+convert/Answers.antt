use Rattle.std.proofs.Common.{inl, inr, suc, ◌≡◌, ◌+◌, Some, [], ◌∷◌, ◌++◌, take, drop, sym, ap, ◌∙◌, subst, append_assoc, arith, string_bytes, string_cmp, add-one}
use Rattle.std.proofs.Math.Seq.{take-suc, drop-cons}
use Rattle.std.proofs.lemmas.List.{take-append-drop}
use Rattle.std.proofs.lemmas.Result.{err_from_is_err_and}
use Rattle.std.specs.List.Sorted.{IsStrictlySortedBy}
use Rattle.std.specs.Map.{keys_of}
use Rattle.serde_json.specs.View.{items_view as json_items, members_view as json_members}
use Rattle.context.specs.Whole.{whole_items, whole_members}
use Rattle.context.specs.View.{data_view, items_view, members_view}
use Rattle.context.proofs.Copies.{JsonEntry, one_more, one_more_not, member_more, member_more_not, put_last, members_view-insert_entry, items_view-append}
use Rattle.context.proofs.json.+convert.Goals as goal

pub hash_of-returns-in_err-data_of : goal.hash_of-returns-in_err-data_of
hash_of-returns-in_err-data_of t c =
    let l = c.loop-key in
    let done = l.invariant.0 in
    let e : JsonEntry = (c.in-Some.key.now, c.in-Some.member.now) in
    let all : c.args.members.now.entries ≡ done ++ e ∷ c.next.new.self = l.invariant.1 ∙ ap (λ es. done ++ es) c.in-Some.ensures.steps in
    let p = err_from_is_err_and c.from_residual-in_err-data_of.result c.from_residual-in_err-data_of.ensures.1 in
    rw (p.1, p.2) (elim c.in_err-data_of.ensures [
      | inl fault ↦ inl (fault.0, ap (λ es. whole_members (json_members es)) all ∙ member_more_not done c.next.new.self e _ l.invariant.2 fault.1)
      | inr memory ↦ inr memory
    ])

pub hash_of-loop-key-preserved : goal.hash_of-loop-key-preserved
hash_of-loop-key-preserved t c =
    let l = c.loop-key in
    let done = l.invariant.0 in
    let e : JsonEntry = (c.in-Some.key.now, c.in-Some.member.now) in
    let left = c.next.new.self in
    let all : c.args.members.now.entries ≡ done ++ e ∷ left = l.invariant.1 ∙ ap (λ es. done ++ es) c.in-Some.ensures.steps in
    let sorted = subst (λ es. IsStrictlySortedBy string_cmp (keys_of es)) all c.iter-key-items.ensures.ordered in
    let last = put_last done e left (members_view l.found.entries) (data_view c.in_ok-data_of.field-0) sorted l.invariant.2 in
    let named : string_bytes c.in_ok-name.name ≡ string_bytes e.0 = c.in_ok-name.ensures.cases in (
      done ++ e ∷ [],
      all ∙ sym (append_assoc done (e ∷ []) left),
      member_more done e _ _ l.invariant.2 c.in_ok-data_of.ensures ∙ ap Some (sym (ap members_view c.in_ok-insert.ensures.entries ∙ members_view-insert_entry l.found.entries c.in_ok-name.name c.in_ok-data_of.field-0 ∙ rw named last)),
    )

pub list_of-returns-in_err-data_of : goal.list_of-returns-in_err-data_of
list_of-returns-in_err-data_of t c =
    let l = c.loop-item in
    let xs = c.deref-item-items.result.now in
    let v = c.item-item.result in
    let rest = drop-cons xs l.item-index v (omega arith) in
    let all : xs ≡ take l.item-index xs ++ v ∷ drop (suc l.item-index) xs =
    sym (take-append-drop l.item-index xs) ∙ ap (λ ys. take l.item-index xs ++ ys) (rest ∙ ap (λ y. y ∷ drop (suc l.item-index) xs) (sym c.item-item.is)) in
    let p = err_from_is_err_and c.from_residual-in_err-data_of.result c.from_residual-in_err-data_of.ensures.1 in
    rw (p.1, p.2) (elim c.in_err-data_of.ensures [
      | inl fault ↦ inl (fault.0, ap (λ ys. whole_items (json_items ys)) (sym c.deref-item-items.ensures.value ∙ all) ∙ one_more_not (take l.item-index xs) _ v _ l.invariant fault.1)
      | inr memory ↦ inr memory
    ])

pub list_of-loop-item-preserved : goal.list_of-loop-item-preserved
list_of-loop-item-preserved t c =
    let l = c.loop-item in
    let xs = c.deref-item-items.result.now in
    let v = c.item-item.result in
    let step = take-suc xs l.item-index v (omega arith) in
    let cut : take (l.item-index + 1) xs ≡ take l.item-index xs ++ v ∷ [] =
    ap (λ n. take n xs) (add-one l.item-index) ∙ step ∙ ap (λ y. take l.item-index xs ++ y ∷ []) (sym c.item-item.is) in
    ap (λ ys. whole_items (json_items ys)) cut ∙ one_more (take l.item-index xs) v _ _ l.invariant c.in_ok-data_of.ensures
    ∙ ap Some (sym (ap items_view c.in_ok-push.ensures.items ∙ items_view-append l.found.items (c.in_ok-data_of.field-0 ∷ [])))
