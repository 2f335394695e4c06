use Rattle.std.proofs.Common.{ap, sym, subst, refl, ◌∙◌, ◌∷◌, ◌++◌, append_assoc}
use Rattle.std.proofs.lemmas.Result.{IfOk-weaker}
use Rattle.shared_map.specs.Entries.{IsRising}
use Rattle.shared_map.proofs.Sides.{right_part, left_part, turned_left}
use Rattle.shared_map.proofs.tree.lean_right.Goals as goal

-- ---- a single turn

pub forked-requires : goal.forked-requires
forked-requires g c =
    left_part g.K.Ord.cmp _ _ _ _ _ _ _ c.in-Some.ensures.some refl c.requires

pub forked-requires-then-height : goal.forked-requires-then-height
forked-requires-then-height g c =
    let n = c.in-Some.node.now in
    let l = c.args.left.now in
    let e = c.args.entry.now.value in
    let whole = ap (λ r. l ++ e ∷ r) c.in-Some.ensures.some ∙ sym (append_assoc l (e ∷ n.left) (n.entry.value ∷ n.right)) in
    rw c.in_ok-lower.ensures (subst (IsRising g.K.Ord.cmp) whole c.requires)

pub returns-then-height : goal.returns-then-height
returns-then-height g c =
    let n = c.in-Some.node.now in
    let l = c.args.left.now in
    let e = c.args.entry.now.value in
    let whole = ap (λ r. l ++ e ∷ r) c.in-Some.ensures.some ∙ sym (append_assoc l (e ∷ n.left) (n.entry.value ∷ n.right)) in
    IfOk-weaker c.forked-then-height.result _ _ (λ m is. is ∙ rw c.in_ok-lower.ensures (sym whole)) c.forked-then-height.ensures

-- ---- a double turn

pub forked-requires-in-Some-fork : goal.forked-requires-in-Some-fork
forked-requires-in-Some-fork g c =
    let n = c.in-Some.node.now in
    left_part g.K.Ord.cmp _ _ _ _ _ _ _ c.in-Some-fork.ensures.some refl
    (left_part g.K.Ord.cmp _ n.left _ n.left n.right n.entry.value _ c.in-Some.ensures.some refl c.requires)

pub forked-requires-in-Some-fork-2 : goal.forked-requires-in-Some-fork-2
forked-requires-in-Some-fork-2 g c =
    right_part g.K.Ord.cmp _ _ _ _ _ _ _ c.in-Some-fork.ensures.some refl c.in-Some.ensures.rising

pub forked-requires-in-Some-fork-3 : goal.forked-requires-in-Some-fork-3
forked-requires-in-Some-fork-3 g c =
    let n = c.in-Some.node.now in
    let m = c.in-Some-fork.middle.now in
    let l = c.args.left.now in
    let e = c.args.entry.now.value in
    let whole = ap (λ r. l ++ e ∷ r) (c.in-Some.ensures.some ∙ ap (λ k. k ++ n.entry.value ∷ n.right) c.in-Some-fork.ensures.some) in
    rw (c.in_ok-first.ensures, c.in_ok-last.ensures)
    (subst (IsRising g.K.Ord.cmp) (whole ∙ sym (turned_left l m.left m.right n.right e m.entry.value n.entry.value)) c.requires)

pub returns-in-Some-fork : goal.returns-in-Some-fork
returns-in-Some-fork g c =
    let n = c.in-Some.node.now in
    let m = c.in-Some-fork.middle.now in
    let l = c.args.left.now in
    let e = c.args.entry.now.value in
    let whole = ap (λ r. l ++ e ∷ r) (c.in-Some.ensures.some ∙ ap (λ k. k ++ n.entry.value ∷ n.right) c.in-Some-fork.ensures.some) in
    IfOk-weaker c.forked-in-Some-fork-3.result _ _
    (λ t is. is
    ∙ rw (c.in_ok-first.ensures, c.in_ok-last.ensures)
    (turned_left l m.left m.right n.right e m.entry.value n.entry.value ∙ sym whole)) c.forked-in-Some-fork-3.ensures
