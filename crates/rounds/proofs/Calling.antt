-- The calls after the deliveries of a batch: what each of them keeps.
use Rattle.std.proofs.Common.{◌≡◌, ◌≢◌, ◌⊎◌, inl, inr, ⊎_elim, ℕ, zero, suc, ◌+◌, List, [], ◌++◌, refl, sym}
use Rattle.std.proofs.Common.{ap, subst, ◌∙◌, append-nil, append_assoc}
use Rattle.std.specs.Prelude.{⊤}
use Rattle.wire.specs.declared.message.Message.{Message}
use Rattle.node.specs.declared.fault.NodeFault.TheVariants.{InstancesUsedUp}
use Rattle.node.specs.declared.to.To.{To}
use Rattle.node.specs.declared.to.To.TheVariants.{One}
use Rattle.node.specs.Nodes.{Node, WantsTick}
use Rattle.node.specs.Calls.{Call, submit, tick, widen, ask, tell, deliver, keep}
use Rattle.node.specs.Endings.{Ending, Whole, Refused, Ends, EndsWhole}
use Rattle.site_drive.specs.declared.last_call.LastCall.{LastCall}
use Rattle.site_drive.specs.declared.last_call.LastCall.TheVariants.{TickOrAsk, Widen, Ask, Tell, Keep}
use Rattle.site_drive.specs.declared.last_call.LastCall.TheVariants.{Nothing}
use Rattle.site_drive.specs.Drives.{Begin, Widens, TicksAndWidens, KeepAll, KeepsEach, EndsLast, EndsTurns}

-- the last call consists of such calls
abbrev pub IsOf : LastCall → Call → Type 0
IsOf TickOrAsk (submit v) = ⊥
IsOf TickOrAsk (tell to j) = ⊥
IsOf TickOrAsk (deliver m) = ⊥
IsOf TickOrAsk (keep j) = ⊥
IsOf TickOrAsk _ = ⊤
IsOf Widen widen = ⊤
IsOf Widen _ = ⊥
IsOf Ask ask = ⊤
IsOf Ask _ = ⊥
IsOf (Tell r f) (tell to j) = j ≡ f
IsOf (Tell r f) _ = ⊥
IsOf (Keep j k) (keep h) = ⊤
IsOf (Keep j k) _ = ⊥
IsOf Nothing _ = ⊥

no_refusal : Refused InstancesUsedUp ≡ Whole → ⊥
no_refusal e = cc

module _ (n q : ℕ) (Holds : Node → List (To × Message) → Type 0) where
  holds_still : (s t : Node) (before out : List (To × Message)) → out ≡ [] → t ≡ s → Holds s before
      → Holds t (before ++ out)
  holds_still s t before out none same holds = subst (λ l. Holds t (before ++ l)) (sym none)
      (subst (λ l. Holds t l) (sym (append-nil before)) (subst (λ u. Holds u before) (sym same) holds))

  module _ (May : Call → Type 0) (keeps : (s t : Node) (before out : List (To × Message)) (call : Call)
      → May call → Holds s before → EndsWhole n q s call out t → Holds t (before ++ out)) where
    one_called : (s t : Node) (before out : List (To × Message)) (call : Call) (ending : Ending) → May call
        → (ending ≡ Whole) ⊎ (ending ≡ Refused InstancesUsedUp) → Ends n q s call ending out t
        → Holds s before → Holds t (before ++ out)
    one_called s t before out call ending may how ends holds =
        ⊎_elim
        (λ (e : ending ≡ Whole). keeps s t before out call may holds
        (subst (λ x. Ends n q s call x out t) e ends))
        (λ (e : ending ≡ Refused InstancesUsedUp). let r = subst (λ x. Ends n q s call x out t) e ends
        in holds_still s t before out r.nothing r.node holds)
        how

    begun : (k : ℕ) (s t : Node) (before out : List (To × Message)) → May widen → Begin n q k s out t
        → Holds s before → Holds t (before ++ out)
    begun zero s t before out may how holds = holds_still s t before out how.0 how.1 holds
    begun (suc k) s t before out may how holds =
        let first = begun k s how.0 before how.1 may how.3 holds in
        let then : Holds t ((before ++ how.1) ++ how.2) = keeps how.0 t (before ++ how.1) how.2 widen may
        first how.5 in
        subst (λ l. Holds t l) (append_assoc before how.1 how.2 ∙ ap (λ l. before ++ l) (sym how.6)) then

    widened : (s t : Node) (before out : List (To × Message)) (ending : Ending) → May widen → (ending ≡ Whole)
        ⊎ (ending ≡ Refused InstancesUsedUp) → Widens n q s ending out t → Holds s before
        → Holds t (before ++ out)
    widened s t before out ending may how widens holds =
        let first = begun widens.count s widens.mid before out may widens.begin holds in
        subst (λ l. Holds t l) (append-nil (before ++ out)) (one_called widens.mid t (before ++ out) [] widen
        ending may how widens.last first)

    ticked : (s t : Node) (before out : List (To × Message)) (ending : Ending) → May tick → May widen
        → (ending ≡ Whole) ⊎ (ending ≡ Refused InstancesUsedUp) → TicksAndWidens n q s ending out t
        → Holds s before → Holds t (before ++ out)
    ticked s t before out ending may may_widen how ticks holds =
        let first = keeps s ticks.mid before ticks.ticked tick may holds ticks.ticks in
        let then = widened ticks.mid t (before ++ ticks.ticked) ticks.widened ending may_widen how
        ticks.widens first in
        subst (λ l. Holds t l) (append_assoc before ticks.ticked ticks.widened
        ∙ ap (λ l. before ++ l) (sym ticks.out_is)) then

    all_kept : (j k : ℕ) (s t : Node) (before : List (To × Message)) → ((h : ℕ) → May (keep h))
        → KeepAll n q j k s t → Holds s before → Holds t before
    all_kept j zero s t before may how holds = subst (λ u. Holds u before) (sym how) holds
    all_kept j (suc k) s t before may how holds =
        let first = all_kept j k s how.0 before may how.1 holds in
        subst (λ l. Holds t l) (append-nil before) (keeps how.0 t before [] (keep (j + k)) (may (j + k)) first
        how.2)

    each_kept : (j k : ℕ) (s t : Node) (before : List (To × Message)) (ending : Ending)
        → ((h : ℕ) → May (keep h)) → (ending ≡ Whole) ⊎ (ending ≡ Refused InstancesUsedUp)
        → KeepsEach n q j k s ending t → Holds s before → Holds t before
    each_kept j k s t before ending may how keeps_each holds =
        let first = all_kept j keeps_each.whole s keeps_each.mid before may keeps_each.kept holds in
        ⊎_elim
        (λ x. subst (λ u. Holds u before) (sym x.1) first)
        (λ x. subst (λ l. Holds t l) (append-nil before) (one_called keeps_each.mid t before []
        (keep (j + keeps_each.whole)) ending (may (j + keeps_each.whole)) how x.2 first))
        keeps_each.then

    last_called : (last : LastCall) (s t : Node) (before out : List (To × Message)) (ending : Ending)
        → ((call : Call) → IsOf last call → May call) → (ending ≡ Whole) ⊎ (ending ≡ Refused InstancesUsedUp)
        → EndsLast last n q s ending out t → Holds s before → Holds t (before ++ out)
    last_called TickOrAsk s t before out ending may how ends holds =
        ⊎_elim
        (λ (x : WantsTick s × (((ending ≢ Whole) × Ends n q s tick ending out t)
        ⊎ TicksAndWidens n q s ending out t)).
        ⊎_elim
        (λ y. one_called s t before out tick ending (may tick tt) how y.1 holds)
        (λ y. ticked s t before out ending (may tick tt) (may widen tt) how y holds)
        x.1)
        (λ (x : (¬ WantsTick s) × Ends n q s ask ending out t). one_called s t before out ask ending
        (may ask tt) how x.1 holds)
        ends
    last_called Widen s t before out ending may how ends holds = widened s t before out ending (may widen tt)
        how ends holds
    last_called Ask s t before out ending may how ends holds = one_called s t before out ask ending
        (may ask tt) how ends holds
    last_called (Tell r f) s t before out ending may how ends holds = one_called s t before out
        (tell (One r) f) ending (may (tell (One r) f) refl) how ends holds
    last_called (Keep j k) s t before out ending may how ends holds =
        subst (λ l. Holds t (before ++ l)) (sym ends.1) (subst (λ l. Holds t l) (sym (append-nil before))
        (each_kept j k s t before ending (λ h. may (keep h) tt) how ends.0 holds))
    last_called Nothing s t before out ending may how ends holds = holds_still s t before out ends.1 ends.2
        holds

    -- over all calls of the last call
    pub all_called : (last : LastCall) (s t : Node) (before out : List (To × Message))
        → ((call : Call) → IsOf last call → May call) → EndsTurns last n q s out t → Holds s before
        → Holds t (before ++ out)
    all_called last s t before out may ends holds =
        ⊎_elim
        (λ x. last_called last s t before out Whole may (inl refl) x holds)
        (λ x. last_called last s t before out (Refused InstancesUsedUp) may (inr refl) x holds)
        ends
