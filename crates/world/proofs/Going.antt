-- That no event of a list is a bad one, as long as all nodes run.
use Rattle.std.proofs.Common.{◌≡◌, ⊎_elim, ℕ, zero, suc, ◌+◌, ◌<◌, ◌≤◌, Some, List, [], ◌∷◌, ◌++◌, length, take, refl, sym, ap, subst, ◌∙◌, arith, length-append}
use Rattle.std.specs.Prelude.{slice_get, ⊤}
use Rattle.site_ids.specs.Ids.{IsNode}
use Rattle.wire.specs.declared.message.Message.{Message}
use Rattle.node.specs.Nodes.{Down}
use Rattle.node.specs.Effects.{messages_of}
use Rattle.node.specs.Calls.{Call, deliver}
use Rattle.world.specs.declared.event.Event.{Event}
use Rattle.world.specs.declared.event.Event.TheVariants.{Submit, Tick, Widen, Ask, Tell, Deliver, Arm, Crash, Restart, Replace, Keep}
use Rattle.world.specs.Worlds.{World, Becomes, CallsAt, Calls}
use Rattle.world.specs.Taking.{IsTaken, Takes, TakesAll, IsBad}
use Rattle.world.specs.Quiet.{AllRun, AreCalm, to_each, each_to}
use Rattle.world.proofs.Calm.{run_before}

-- neither the next event is bad, nor any one after it, as long as all nodes run
abbrev pub NeverBad : ℕ → World → List Event → Type 0
NeverBad n w [] = ⊤
NeverBad n w (event ∷ events) = (¬ IsBad n w event) × ((next : World) → Takes n w event next → AllRun n next → NeverBad n next events)

module _ (n : ℕ) where
  pub never_both : (xs ys : List Event) (w : World) → AllRun n w → NeverBad n w xs → ((mid : World) → TakesAll n w xs mid → AllRun n mid → NeverBad n mid ys) → NeverBad n w (xs ++ ys)
  never_both [] ys w run h rest = rest w refl run
  never_both (x ∷ xs) ys w run h rest = (h.0, λ next taken up. never_both xs ys next up (h.1 next taken up) (λ mid how ran. rest mid (next, taken, how) ran))

  calm_take : (k : ℕ) (events : List Event) → AreCalm events → AreCalm (take k events)
  calm_take zero events calm = tt
  calm_take (suc k) [] calm = tt
  calm_take (suc k) (Tick p ∷ events) calm = calm_take k events calm
  calm_take (suc k) (Deliver p j ∷ events) calm = calm_take k events calm
  calm_take (suc k) (Submit p v ∷ events) calm = absurd calm
  calm_take (suc k) (Widen p ∷ events) calm = absurd calm
  calm_take (suc k) (Ask p ∷ events) calm = absurd calm
  calm_take (suc k) (Tell p i ∷ events) calm = absurd calm
  calm_take (suc k) (Arm p j ∷ events) calm = absurd calm
  calm_take (suc k) (Crash p j ∷ events) calm = absurd calm
  calm_take (suc k) (Restart p ∷ events) calm = absurd calm
  calm_take (suc k) (Replace p floor ∷ events) calm = absurd calm
  calm_take (suc k) (Keep p i ∷ events) calm = absurd calm

  tail_calm : (x : Event) (events : List Event) → AreCalm (x ∷ events) → AreCalm events
  tail_calm (Tick p) events calm = calm
  tail_calm (Deliver p j) events calm = calm
  tail_calm (Submit p v) events calm = absurd calm
  tail_calm (Widen p) events calm = absurd calm
  tail_calm (Ask p) events calm = absurd calm
  tail_calm (Tell p i) events calm = absurd calm
  tail_calm (Arm p j) events calm = absurd calm
  tail_calm (Crash p j) events calm = absurd calm
  tail_calm (Restart p) events calm = absurd calm
  tail_calm (Replace p floor) events calm = absurd calm
  tail_calm (Keep p i) events calm = absurd calm

  same_event : (x y : Event) → Some x ≡ Some y → x ≡ y
  same_event x y e = cc

  pub never_at : (k : ℕ) (events : List Event) (w after : World) (event : Event) → AreCalm events → NeverBad n w events → TakesAll n w (take k events) after → AllRun n after → slice_get events k ≡ Some event → ¬ IsBad n after event
  never_at k [] w after event calm h how run at = (cc)
  never_at zero (x ∷ events) w after event calm h how run at = λ bad. h.0 (subst (λ e. IsBad n w e) (sym (same_event x event at)) (subst (λ (y : World). IsBad n y event) how bad))
  never_at (suc k) (x ∷ events) w after event calm h how run at =
      let rest = tail_calm x events calm in
      let up = run_before n (take k events) how.0 after (calm_take k events rest) how.2 run in
      never_at k events how.0 after event rest (h.1 how.0 how.1 up) how.2 run at

  -- ---- what is handed out only grows

  grown : (l before more : List Message) → l ≡ before ++ more → length before ≤ length l
  grown l before more is = let e : length l ≡ length before + length more = ap (λ (x : List Message). length x) is ∙ length-append before more in omega (arith, e)

  call_grows : (w after : World) (p : ℕ) (call : Call) → Calls n IsTaken w p call after → length w.sent ≤ length after.sent
  call_grows w after p call how =
      ⊎_elim
      (λ (x : CallsAt n IsTaken w p call after). grown after.sent w.sent (messages_of x.out) x.moves.sent)
      (λ (x : ((w.node p).mode ≡ Down) × Becomes n w p (w.node p) after). grown after.sent w.sent [] x.1.sent)
      how

  -- ---- deliveries

  good_delivery : (w : World) (q index : ℕ) → IsNode n q → index < length w.sent → ¬ IsBad n w (Deliver q index)
  good_delivery w q index node below bad = ⊎_elim (λ none. none node) (λ other. ⊎_elim (λ (h : length w.sent ≤ index). omega (arith, h, below)) (λ none. none) other) bad

  pub never_to_each : (index k q : ℕ) (w : World) → index < length w.sent → ((r : ℕ) → q ≤ r → r < q + k → IsNode n r) → NeverBad n w (to_each index q k)
  never_to_each index zero q w below nodes = tt
  never_to_each index (suc k) q w below nodes = (
    good_delivery w q index (nodes q (omega arith) (omega arith)) below,
    λ next taken run.
        let more = call_grows w next q (deliver taken.message) taken.calls in
        never_to_each index k (suc q) next (omega (arith, more, below)) (λ r low high. nodes r (omega (arith, low)) (omega (arith, high))),
  )

  pub never_each_to : (p index k : ℕ) (w : World) → IsNode n p → index + k ≤ length w.sent → NeverBad n w (each_to p index k)
  never_each_to p index zero w node below = tt
  never_each_to p index (suc k) w node below = (
    good_delivery w p index node (omega (arith, below)),
    λ next taken run. let more = call_grows w next p (deliver taken.message) taken.calls in never_each_to p (suc index) k next node (omega (arith, more, below)),
  )
