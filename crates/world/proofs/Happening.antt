-- An event at the machine of its node.
use Rattle.std.proofs.Common.{◌≡◌, ℕ, zero, suc, ◌<◌, ◌≤◌, Result, Some, None, List, [], ◌∷◌, ◌++◌, length, refl, sym, ap, subst, ◌∙◌, append-nil, arith}
use Rattle.std.specs.Prelude.{slice_get}
use Rattle.std.specs.Result.{OnOk, OnErr}
use Rattle.site_ids.proofs.MemberLemmas.{in_get}
use Rattle.wire.specs.declared.message.Message.{Message}
use Rattle.wire.specs.Messages.{IsMessage}
use Rattle.node.specs.declared.to.To.TheVariants.{All}
use Rattle.durable.specs.Entries.{Floor}
use Rattle.node.specs.Nodes.{Node, Up, Down, opened}
use Rattle.node.specs.Effects.{messages_of}
use Rattle.node.specs.Calls.{submit, tick, widen, ask, tell, deliver, keep}
use Rattle.world.specs.declared.event.Event.{Event}
use Rattle.world.specs.declared.event.Event.TheVariants.{Submit, Tick, Widen, Ask, Tell, Deliver, Arm, Crash, Restart, Replace, Keep}
use Rattle.world.specs.declared.machine.Machine.{Machine}
use Rattle.world.specs.Taking.{node_of, IsUnsent}
use Rattle.world.specs.Machines.{Handed, NodeTakes, Settled, Turns, Wants, IsUp, CallTurns, CallWants, EventTurns, EventWants}
use Rattle.world.proofs.Turning.{on_ok, on_err}

-- what hands out nothing, beside a longer list
beside : (n p : ℕ) (Does : Node → Handed → Node → Type 0) (old new : Machine) (before : Handed) → Turns n p Does old new [] [] → Turns n p Does old new before before
beside n p Does old new before turns = record {
  leads = λ s at.
      let t = turns.leads s at in
      record { next = t.next; out = t.out; does = t.does; stands = t.stands; outbox = sym (append-nil before) ∙ ap (λ (l : Handed). before ++ l) t.outbox; messages = t.messages };
}

turns_for : (n : ℕ) (event made : Event) (old new : Machine) (before after : Handed) → event ≡ made → EventTurns n made old new before after → EventTurns n event old new before after
turns_for n event made old new before after is turns = subst (λ (e : Event). EventTurns n e old new before after) (sym is) turns

wants_for : (n : ℕ) (event made : Event) (old new : Machine) (before after : Handed) → event ≡ made → EventWants n (node_of made) made old new before after → EventWants n (node_of event) event old new before after
wants_for n event made old new before after is wants = subst (λ (e : Event). EventWants n (node_of e) e old new before after) (sym is) wants

found_at : (sent : Handed) (k : ℕ) → k < length sent → (m : Message) × (slice_get (messages_of sent) k ≡ Some m)
found_at [] k below = absurd (omega (arith, below))
found_at (x ∷ sent) zero below = (x.1, refl)
found_at (x ∷ sent) (suc k) below = found_at sent k (omega (arith, below))

pub same_length : (sent : Handed) → length (messages_of sent) ≡ length sent
same_length [] = refl
same_length (x ∷ sent) = ap suc (same_length sent)

pub is_sent : (event : Event) (q index : ℕ) (sent : Handed) → event ≡ Deliver q index → ¬ IsUnsent (messages_of sent) event → index < length sent
is_sent event q index sent is told =
    let known : ¬ (length (messages_of sent) ≤ index) = subst (λ (e : Event). ¬ IsUnsent (messages_of sent) e) is told in
    let same = same_length sent in
    omega (arith, known, same)

pub arms : (n : ℕ) (event : Event) (old new : Machine) (before : Handed) (q calls : ℕ) → event ≡ Arm q calls → ((k p x : ℕ) → Turns k p (λ s out next. NodeTakes k p [] s (Arm x calls) out next) old new [] []) → EventTurns n event old new before before
arms n event old new before q calls is turns = turns_for n event (Arm q calls) old new before before is (λ messages. beside n q (λ s out next. NodeTakes n q (messages_of before) s (Arm q calls) out next) old new before (turns n q q))

pub crashes : (n : ℕ) (event : Event) (old new : Machine) (before : Handed) (q choice : ℕ) → event ≡ Crash q choice → ((k p : ℕ) → Turns k p (λ s out next. Settled Down s out next) old new [] []) → EventTurns n event old new before before
crashes n event old new before q choice is turns = turns_for n event (Crash q choice) old new before before is (λ messages. beside n q (λ s out next. NodeTakes n q (messages_of before) s (Crash q choice) out next) old new before (turns n q))

pub restarts : (n : ℕ) (event : Event) (old new : Machine) (before : Handed) (q : ℕ) → event ≡ Restart q → Turns n q (λ s out next. Settled Up s out next) old new [] [] → EventTurns n event old new before before
restarts n event old new before q is turns = turns_for n event (Restart q) old new before before is (λ messages. beside n q (λ s out next. NodeTakes n q (messages_of before) s (Restart q) out next) old new before turns)

module _ {T E : Type 0} (r : Result T E) (n : ℕ) (event : Event) (old new : Machine) (before after : Handed) where
  pub submits : (q : ℕ) (v w : List ℕ) → event ≡ Submit q v → w ≡ v → OnOk r ((k p : ℕ) → CallTurns k p (submit w) old new [] []) → OnOk r (EventTurns n event old new before before)
  submits q v w is same told =
      on_ok r
      (λ turns. turns_for n event (Submit q v) old new before before is
      (λ messages. beside n q (λ s out next. NodeTakes n q (messages_of before) s (Submit q v) out next) old new before
      (subst (λ (x : List ℕ). CallTurns n q (submit x) old new [] []) same (turns n q))))
      told

  pub ticks : (q : ℕ) → event ≡ Tick q → OnOk r ((k p : ℕ) → CallTurns k p tick old new before after) → OnOk r (EventTurns n event old new before after)
  ticks q is told = on_ok r (λ turns. turns_for n event (Tick q) old new before after is (λ messages. turns n q)) told

  pub widens : (q : ℕ) → event ≡ Widen q → OnOk r ((k p : ℕ) → CallTurns k p widen old new before after) → OnOk r (EventTurns n event old new before after)
  widens q is told = on_ok r (λ turns. turns_for n event (Widen q) old new before after is (λ messages. turns n q)) told

  pub asks : (q : ℕ) → event ≡ Ask q → OnOk r ((k p : ℕ) → CallTurns k p ask old new before after) → OnOk r (EventTurns n event old new before after)
  asks q is told = on_ok r (λ turns. turns_for n event (Ask q) old new before after is (λ messages. turns n q)) told

  pub tells : (q i : ℕ) → event ≡ Tell q i → OnOk r ((k p : ℕ) → CallTurns k p (tell All i) old new before after) → OnOk r (EventTurns n event old new before after)
  tells q i is told = on_ok r (λ turns. turns_for n event (Tell q i) old new before after is (λ messages. turns n q)) told

  pub keeps : (q i : ℕ) → event ≡ Keep q i → OnOk r ((k p : ℕ) → CallTurns k p (keep i) old new [] []) → OnOk r (EventTurns n event old new before before)
  keeps q i is told =
      on_ok r
      (λ turns. turns_for n event (Keep q i) old new before before is
      (λ messages. beside n q (λ s out next. NodeTakes n q (messages_of before) s (Keep q i) out next) old new before (turns n q)))
      told

  pub replaces : (q floor : ℕ) → event ≡ Replace q floor → OnOk r (Turns n q (λ s out next. (out ≡ []) × (next ≡ opened Down (Floor floor ∷ []) None)) old new [] []) → OnOk r (EventTurns n event old new before before)
  replaces q floor is told =
      on_ok r (λ turns. turns_for n event (Replace q floor) old new before before is (λ messages. beside n q (λ s out next. NodeTakes n q (messages_of before) s (Replace q floor) out next) old new before turns)) told

  pub delivers : (q index : ℕ) → event ≡ Deliver q index → index < length before
      → OnOk r ((m : Message) → slice_get (messages_of before) index ≡ Some m → (k p : ℕ) → IsMessage k m → CallTurns k p (deliver m) old new before after) → OnOk r (EventTurns n event old new before after)
  delivers q index is below told =
      on_ok r
      (λ turns. turns_for n event (Deliver q index) old new before after is
      (λ messages.
      let found = found_at before index below in
      let turned = turns found.0 found.1 n q (messages found.0 (in_get (messages_of before) index found.0 found.1)) in
      record {
        leads = λ s stands.
            let t = turned.leads s stands in
            record { next = t.next; out = t.out; does = (found.0, found.1, t.does); stands = t.stands; outbox = t.outbox; messages = t.messages };
      }))
      told

  pub submit_wants : (q : ℕ) (v w : List ℕ) → event ≡ Submit q v → w ≡ v → OnErr r ((k p : ℕ) → CallWants k p (submit w) old new [] []) → OnErr r (EventWants n (node_of event) event old new before before)
  submit_wants q v w is same told =
      on_err r
      (λ wants. wants_for n event (Submit q v) old new before before is (record { leads = λ s at. let x = (subst (λ (y : List ℕ). CallWants n q (submit y) old new [] []) same (wants n q)).leads s at in (x.0, x.1, refl, x.3) }))
      told

  pub tick_wants : (q : ℕ) → event ≡ Tick q → OnErr r ((k p : ℕ) → CallWants k p tick old new before after) → OnErr r (EventWants n (node_of event) event old new before after)
  tick_wants q is told = on_err r (λ wants. wants_for n event (Tick q) old new before after is (wants n q)) told

  pub widen_wants : (q : ℕ) → event ≡ Widen q → OnErr r ((k p : ℕ) → CallWants k p widen old new before after) → OnErr r (EventWants n (node_of event) event old new before after)
  widen_wants q is told = on_err r (λ wants. wants_for n event (Widen q) old new before after is (wants n q)) told

  pub ask_wants : (q : ℕ) → event ≡ Ask q → OnErr r ((k p : ℕ) → CallWants k p ask old new before after) → OnErr r (EventWants n (node_of event) event old new before after)
  ask_wants q is told = on_err r (λ wants. wants_for n event (Ask q) old new before after is (wants n q)) told

  pub tell_wants : (q i : ℕ) → event ≡ Tell q i → OnErr r ((k p : ℕ) → CallWants k p (tell All i) old new before after) → OnErr r (EventWants n (node_of event) event old new before after)
  tell_wants q i is told = on_err r (λ wants. wants_for n event (Tell q i) old new before after is (wants n q)) told

  pub keep_wants : (q i : ℕ) → event ≡ Keep q i → OnErr r ((k p : ℕ) → CallWants k p (keep i) old new [] []) → OnErr r (EventWants n (node_of event) event old new before before)
  keep_wants q i is told =
      on_err r (λ wants. wants_for n event (Keep q i) old new before before is (record { leads = λ s at. let x = (wants n q).leads s at in (x.0, x.1, refl, x.3) })) told

  pub deliver_wants : (q index : ℕ) → event ≡ Deliver q index → OnErr r ((k p : ℕ) → Wants k p IsUp old new before after) → OnErr r (EventWants n (node_of event) event old new before after)
  deliver_wants q index is told = on_err r (λ wants. wants_for n event (Deliver q index) old new before after is (wants n q)) told

  pub replace_wants : (q floor : ℕ) → event ≡ Replace q floor → OnErr r (new ≡ old) → OnErr r (EventWants n (node_of event) event old new before before)
  replace_wants q floor is told =
      on_err r
      (λ same. wants_for n event (Replace q floor) old new before before is
      (subst (λ (m : Machine). Wants n q (λ s. Unit {0}) old m before before) (sym same) (record { leads = λ s at. (tt, at, refl, (λ published. published)) })))
      told
