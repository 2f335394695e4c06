use Rattle.std.proofs.Common.{◌≡◌, ◌+◌, [], ◌∷◌, ◌++◌, take, sym, ap, ◌∙◌, subst, append_assoc, arith, string_bytes, string_cmp, add-one}
use Rattle.std.proofs.Math.Seq.{take-suc}
use Rattle.std.specs.List.Sorted.{IsStrictlySortedBy}
use Rattle.std.specs.Map.{keys_of}
use Rattle.context.specs.View.{data_view, items_view, members_view}
use Rattle.context.specs.Whole.{item, no_items}
use Rattle.context.proofs.Copies.{Entry, append_items, put, copied_last, members_view-insert_entry, items_view-append}
use Rattle.context.proofs.copying.+copies.Goals as goal

pub hash_of-loop-key-preserved : goal.hash_of-loop-key-preserved
hash_of-loop-key-preserved t c =
    let l = c.loop-key in
    let done = l.invariant.0 in
    let e : Entry = (c.in-Some.key.now, c.in-Some.member.now) in
    let left = c.next.new.self in
    let all : c.args.members.now.entries ≡ done ++ e ∷ left = l.invariant.1 ∙ ap (λ es. done ++ es) c.in-Some.ensures.steps in
    let sorted = subst (λ es. IsStrictlySortedBy string_cmp (keys_of es)) all c.iter-key-items.ensures.ordered in
    let named : string_bytes c.in_ok-name.name ≡ string_bytes e.0 = c.in_ok-name.ensures.cases in
    let same : data_view c.in_ok-data_of.field-0 ≡ data_view e.1 = c.in_ok-data_of.ensures in (
      done ++ e ∷ [],
      all ∙ sym (append_assoc done (e ∷ []) left),
      ap members_view c.in_ok-insert.ensures.entries ∙ members_view-insert_entry l.found.entries c.in_ok-name.name c.in_ok-data_of.field-0
          ∙ ap (put (string_bytes c.in_ok-name.name) (data_view c.in_ok-data_of.field-0)) l.invariant.2 ∙ rw (named, same) (copied_last done e left sorted),
    )

pub list_of-loop-item-preserved : goal.list_of-loop-item-preserved
list_of-loop-item-preserved t c =
    let l = c.loop-item in
    let xs = c.deref-item-items.result.now in
    let v = c.item-item.result in
    let step = take-suc xs l.item-index v (omega arith) in
    let cut : take (l.item-index + 1) xs ≡ take l.item-index xs ++ v ∷ [] =
    ap (λ n. take n xs) (add-one l.item-index) ∙ step ∙ ap (λ y. take l.item-index xs ++ y ∷ []) (sym c.item-item.is) in
    let same : data_view c.in_ok-data_of.field-0 ≡ data_view v = c.in_ok-data_of.ensures in
    ap items_view c.in_ok-push.ensures.items ∙ items_view-append l.found.items (c.in_ok-data_of.field-0 ∷ [])
    ∙ ap (λ is. append_items is (item (data_view c.in_ok-data_of.field-0) no_items)) l.invariant
    ∙ ap (λ w. append_items (items_view (take l.item-index xs)) (item w no_items)) same
    ∙ sym (ap items_view cut ∙ items_view-append (take l.item-index xs) (v ∷ []))
