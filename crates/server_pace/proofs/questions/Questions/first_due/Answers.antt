use Rattle.std.proofs.Common.{rules, ◌≡◌, ◌<◌, ◌≤◌, true, false, ⊎_elim, sym, ap, subst, ◌∙◌, arith}
use Rattle.site_ids.specs.Ids.{IsNode}
use Rattle.site_ids.proofs.NodeSetLemmas.{below_next}
use Rattle.server_pace.specs.Places.{number_behind, places_behind}
use Rattle.server_pace.specs.Questioning.{IsDueTo, IsNextTo}
use Rattle.server_pace.proofs.NextTold.{some_more, when_none, behind_and_back, place_range, place_of}
use Rattle.server_pace.proofs.questions.Questions.first_due.Goals as goal

-- behind the last one it comes first: nothing is due to those at the places before
pub returns-then-is_some-clause-some : goal.returns-then-is_some-clause-some
returns-then-is_some-clause-some g c =
    let last = c.args.self.now.last in
    let place = c.loop-place.place in
    let range : IsNode 9 last = subst (IsNode 9) c.number-last.ensures.is c.number-last.ensures.range in
    let number : c.number_behind.result ≡ number_behind last place = c.number_behind.ensures ∙ ap (λ n. number_behind n place) c.number-last.ensures.is in
    let few : c.args.node.now.cluster ≤ 9 = subst (λ n. n ≤ 9) c.cluster-cluster.ensures (search (rules, c.cluster-cluster.type_inv)) in
    some_more c.next_at-next.result
    (λ next is. λ s h. (
      c.number_behind.result,
      subst (λ n. IsNextTo c.args.self.now c.args.teller.now n s c.number_behind.result next) c.cluster-cluster.ensures (is s h),
      λ q d node before due.
          let at = place_range last q range.0 range.1 node.0 (omega (arith, node.1, few)) in
          let back = behind_and_back last q range.0 range.1 node.0 (omega (arith, node.1, few)) in
          let here : places_behind last c.number_behind.result ≡ place = ap (λ n. places_behind last n) number ∙ place_of last place range.0 range.1 c.loop-place.auto.place c.loop-place-test.true in
          c.loop-place.invariant (places_behind last q) at.0 (omega (arith, before, here)) s h d
          (subst (λ p. IsNode c.args.node.now.cluster p) (sym back) node)
          (subst (λ p. IsDueTo c.args.self.now c.args.teller.now s p d) (sym back) due),
    ))
    c.next_at-next.ensures.some

-- nor is anything due to this one
pub loop-place-preserved : goal.loop-place-preserved
loop-place-preserved g c = λ p some below s h d is due. ⊎_elim
    (λ (e : p ≡ c.loop-place.place).
    let same : number_behind c.args.self.now.last p ≡ c.number_behind.result
    = ap (λ n. number_behind n p) (sym c.number-last.ensures.is) ∙ ap (λ n. number_behind c.number-last.result n) e ∙ sym c.number_behind.ensures in
    let none = when_none c.next_at-next.result (sym c.is_some.ensures ∙ c.if-is_some.false) c.next_at-next.ensures.none in
    none s h d (subst (λ n. IsNode n c.number_behind.result) (sym c.cluster-cluster.ensures) (subst (λ q. IsNode c.args.node.now.cluster q) same is))
    (subst (λ q. IsDueTo c.args.self.now c.args.teller.now s q d) same due))
    (λ (less : p < c.loop-place.place). c.loop-place.invariant p some less s h d is due)
    (below_next p c.loop-place.place (omega (arith, below)))

pub returns-clause-none : goal.returns-clause-none
returns-clause-none g c = λ s h q d is due.
    let last = c.args.self.now.last in
    let range : IsNode 9 last = subst (IsNode 9) c.number-last.ensures.is c.number-last.ensures.range in
    let few : c.args.node.now.cluster ≤ 9 = subst (λ n. n ≤ 9) c.cluster-cluster.ensures (search (rules, c.cluster-cluster.type_inv)) in
    let place = place_range last q range.0 range.1 is.0 (omega (arith, is.1, few)) in
    let back = behind_and_back last q range.0 range.1 is.0 (omega (arith, is.1, few)) in
    c.loop-place.invariant (places_behind last q) place.0 (omega (arith, place.1, c.loop-place-test.false)) s h d
    (subst (λ p. IsNode c.args.node.now.cluster p) (sym back) is)
    (subst (λ p. IsDueTo c.args.self.now c.args.teller.now s p d) (sym back) due)
