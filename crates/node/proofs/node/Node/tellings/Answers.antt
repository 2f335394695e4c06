use Rattle.std.proofs.Common.{◌≡◌, ◌+◌, ◌-◌, ℕ, Some, None, refl, ap, subst, ◌∙◌, arith}
use Rattle.node.specs.Tellings.{TellsOn}
use Rattle.node.proofs.Adding.{on_err}
use Rattle.node.proofs.ToldAgain.{begun_telling, more_telling, full_telling, whole_telling, last_telling}
use Rattle.node.proofs.node.Node.tellings.Goals as goal

pub loop-past-init : goal.loop-past-init
loop-past-init g c = record {
  left = 64;
  counted = refl;
  so_far = λ s stands. begun_telling c.args.self.now.me s c.args.to.now c.args.first c.new-told.result.items c.new-told.ensures.items;
}

-- past the last instance
pub returns-in_default-clause-told : goal.returns-in_default-clause-told
returns-in_default-clause-told g c s stands =
    let l = c.loop-past in
    last_telling c.args.self.now.cluster c.args.self.now.me s c.args.to.now c.args.first l.past l.invariant.left l.room _ l.told.items stands.ranges stands.parts.on_record.history
    (omega arith) c.in_default.ensures (l.invariant.so_far s stands)

pub returns-in_err-left-clause-wanted : goal.returns-in_err-left-clause-wanted
returns-in_err-left-clause-wanted g c =
    let l = c.loop-past in
    let here : c.in-Some.instance ≡ c.args.first + l.past = c.in-Some.ensures.0 in
    on_err c.from_residual.result (λ s stands. (c.in-Some.instance, (omega (arith, here), omega (arith, here)), c.in_err-left.ensures.wanted s stands))

-- no room for the next
pub returns-in_default-2-clause-told : goal.returns-in_default-2-clause-told
returns-in_default-2-clause-told g c s stands =
    let l = c.loop-past in
    let here : c.in-Some.instance ≡ c.args.first + l.past = c.in-Some.ensures.0 in
    full_telling c.args.self.now.me s c.args.to.now c.args.first _ l.told.items c.push_telling.new.told.items l.room l.past l.invariant.left (l.invariant.so_far s stands) (63 - l.past)
    (omega (arith, l.invariant.counted))
    (subst (λ i. TellsOn c.args.self.now.me s c.args.to.now i l.room l.told.items c.push_telling.new.told.items None) here (subst (λ o. TellsOn c.args.self.now.me s c.args.to.now c.in-Some.instance l.room l.told.items c.push_telling.new.told.items o) c.in_default-2.is (c.in_ok-left.ensures.told s stands)))

pub loop-past-preserved : goal.loop-past-preserved
loop-past-preserved g c =
    let l = c.loop-past in
    let here : c.in-Some.instance ≡ c.args.first + l.past = c.in-Some.ensures.0 in
    record {
      left = 63 - l.past;
      counted = omega arith;
      so_far = λ s stands.
          more_telling c.args.self.now.me s c.args.to.now c.args.first _ l.told.items c.push_telling.new.told.items l.room l.past l.invariant.left (l.invariant.so_far s stands) c.in-Some-2.left (63 - l.past)
          (omega (arith, l.invariant.counted))
          (subst (λ i. TellsOn c.args.self.now.me s c.args.to.now i l.room l.told.items c.push_telling.new.told.items (Some c.in-Some-2.left)) here (subst (λ o. TellsOn c.args.self.now.me s c.args.to.now c.in-Some.instance l.room l.told.items c.push_telling.new.told.items o) c.in-Some-2.is (c.in_ok-left.ensures.told s stands)));
    }

-- all of them were looked at
pub returns-clause-told : goal.returns-clause-told
returns-clause-told g c s stands =
    let l = c.loop-past in
    whole_telling c.args.self.now.me s c.args.to.now c.args.first _ l.told.items l.told.items l.room l.past l.invariant.left (l.invariant.so_far s stands) (omega (arith, l.invariant.counted))
