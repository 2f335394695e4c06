use Rattle.std.proofs.Common.{◌≡◌, inl, inr, ℕ, suc, ◌-◌, ◌<◌, ◌≤◌, length, ◌∙◌, sym, subst, arith, refl}
use Rattle.site_ids.specs.Ids.{IsNode}
use Rattle.node.specs.Effects.{messages_of}
use Rattle.world.specs.Taking.{node_of, IsUnsent}
use Rattle.world.proofs.AllowedFloors.{names_some, names_none}
use Rattle.world.proofs.Happening.{same_length}
use Rattle.world.proofs.Turning.{ok_of, err_of, not_both}
use Rattle.world.proofs.Moving.{got_at, step_taken, step_unpublished, step_not_taken, step_bad}
use Rattle.world.proofs.world.World.step.Goals as goal

pub happen-requires : goal.happen-requires
happen-requires g =
    let event = g.args.event.now in
    let sent = g.args.self.now.sent in
    let me : g.number.result ≡ node_of event = g.number.ensures.is ∙ g.node-me.ensures in
    let one : 1 ≤ g.number.result = g.number.ensures.range.0 in
    let inside : g.number.result ≤ g.size.result = g.if-size-number.false in
    let told = g.is_unsent.ensures (messages_of sent.items) (same_length sent.items ∙ sym sent.ok.0 ∙ sym g.len.ensures) in
    record { node = (omega (arith, one, me), omega (arith, inside, me, g.size.ensures.is)); message = λ unsent. not_both _ g.if-is_unsent.false (told.1 unsent) }

pub returns-clause-ends : goal.returns-clause-ends
returns-clause-ends g =
    let old = g.args.self.now in
    let event = g.args.event.now in
    let k : ℕ = g.number-2.result - 1 in
    let one : 1 ≤ g.number-2.result = g.number-2.ensures.range.0 in
    let me : g.number-2.result ≡ node_of event = g.number-2.ensures.is ∙ g.node-me.ensures in
    let also : g.number.result ≡ node_of event = g.number.ensures.is ∙ g.node-me.ensures in
    let inside : g.number.result ≤ g.size.result = g.if-size-number.false in
    let at : IsNode old.cluster (node_of event) = (omega (arith, one, me), omega (arith, inside, also, g.size.ensures.is)) in
    let here : node_of event ≡ suc k = omega (arith, one, me) in
    let below : k < length old.machines.items = omega (arith, here, at.1, old.all_there) in
    step_taken old _ event k g.index_mut-machine.result.now _ _ here below refl refl at (names_some old event g.names_floor.result (λ w stands. g.names_floor.ensures w (record { machines = stands.machines; sent = stands.sent; messages = stands.messages })) g.if-not-names_floor.false) (got_at old.machines.items k g.index_mut-machine.result.now below g.index_mut-machine.ensures.value)
    (ok_of g.happen.result g.if-is_err.ensures.value g.happen.ensures.ok) g.publish.ensures.same (ok_of g.publish.result g.if-is_err-2.ensures.value g.publish.ensures.ok)

pub returns-then-is_err-2-clause-ends : goal.returns-then-is_err-2-clause-ends
returns-then-is_err-2-clause-ends g =
    let old = g.args.self.now in
    let event = g.args.event.now in
    let k : ℕ = g.number-2.result - 1 in
    let one : 1 ≤ g.number-2.result = g.number-2.ensures.range.0 in
    let me : g.number-2.result ≡ node_of event = g.number-2.ensures.is ∙ g.node-me.ensures in
    let also : g.number.result ≡ node_of event = g.number.ensures.is ∙ g.node-me.ensures in
    let inside : g.number.result ≤ g.size.result = g.if-size-number.false in
    let at : IsNode old.cluster (node_of event) = (omega (arith, one, me), omega (arith, inside, also, g.size.ensures.is)) in
    let here : node_of event ≡ suc k = omega (arith, one, me) in
    let below : k < length old.machines.items = omega (arith, here, at.1, old.all_there) in
    step_unpublished old _ event k g.index_mut-machine.result.now _ _ here below refl refl at (names_some old event g.names_floor.result (λ w stands. g.names_floor.ensures w (record { machines = stands.machines; sent = stands.sent; messages = stands.messages })) g.if-not-names_floor.false) (got_at old.machines.items k g.index_mut-machine.result.now below g.index_mut-machine.ensures.value)
    (ok_of g.happen.result g.if-is_err.ensures.value g.happen.ensures.ok) g.publish.ensures.same (err_of g.publish.result g.if-is_err-2.ensures.value g.publish.ensures.err)

pub returns-then-is_err-clause-ends : goal.returns-then-is_err-clause-ends
returns-then-is_err-clause-ends g =
    let old = g.args.self.now in
    let event = g.args.event.now in
    let k : ℕ = g.number-2.result - 1 in
    let one : 1 ≤ g.number-2.result = g.number-2.ensures.range.0 in
    let me : g.number-2.result ≡ node_of event = g.number-2.ensures.is ∙ g.node-me.ensures in
    let also : g.number.result ≡ node_of event = g.number.ensures.is ∙ g.node-me.ensures in
    let inside : g.number.result ≤ g.size.result = g.if-size-number.false in
    let at : IsNode old.cluster (node_of event) = (omega (arith, one, me), omega (arith, inside, also, g.size.ensures.is)) in
    let here : node_of event ≡ suc k = omega (arith, one, me) in
    let below : k < length old.machines.items = omega (arith, here, at.1, old.all_there) in
    step_not_taken old _ event k g.index_mut-machine.result.now _ here below refl refl at (got_at old.machines.items k g.index_mut-machine.result.now below g.index_mut-machine.ensures.value)
    (err_of g.happen.result g.if-is_err.ensures.value g.happen.ensures.err)

pub returns-then-size-number-clause-ends : goal.returns-then-size-number-clause-ends
returns-then-size-number-clause-ends g =
    step_bad g.args.self.now _ g.args.event.now refl refl refl
    (λ w stands. inl (λ (at : IsNode g.args.self.now.cluster (node_of g.args.event.now)). omega (arith, at.1, g.if-size-number.true, g.number.ensures.is, g.node-me.ensures, g.size.ensures.is)))

pub returns-then-is_unsent-clause-ends : goal.returns-then-is_unsent-clause-ends
returns-then-is_unsent-clause-ends g =
    let sent = g.args.self.now.sent in
    let told = g.is_unsent.ensures (messages_of sent.items) (same_length sent.items ∙ sym sent.ok.0 ∙ sym g.len.ensures) in
    step_bad g.args.self.now _ g.args.event.now refl refl refl
    (λ w stands. inr (inl (subst (λ l. IsUnsent l g.args.event.now) (sym stands.sent) (told.0 g.if-is_unsent.true))))

pub returns-then-not-names_floor-clause-ends : goal.returns-then-not-names_floor-clause-ends
returns-then-not-names_floor-clause-ends g =
    let old = g.args.self.now in
    let event = g.args.event.now in
    step_bad old _ event refl refl refl (λ w stands. inr (inr (names_none old event g.names_floor.result (λ w stands. g.names_floor.ensures w (record { machines = stands.machines; sent = stands.sent; messages = stands.messages })) g.if-not-names_floor.true w stands)))
