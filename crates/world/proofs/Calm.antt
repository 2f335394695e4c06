-- Ticks and deliveries at nodes that still run afterwards.
use Rattle.std.proofs.Common.{◌≡◌, ◌≢◌, ◌⊎◌, inl, inr, ⊎_elim, ℕ, zero, suc, Option, Some, None, List, [], ◌∷◌, ◌++◌, refl, sym, ap, subst, ◌∙◌}
use Rattle.std.specs.Prelude.{slice_get}
use Rattle.wire.specs.declared.message.Message.{Message}
use Rattle.node.specs.declared.to.To.{To}
use Rattle.node.specs.declared.fault.NodeFault.{NodeFault}
use Rattle.node.specs.declared.fault.NodeFault.TheVariants.{OutOfMemory, Device, Stopped as IsStopped, QueueFull, NotACommand, InstancesUsedUp, RoundsUsedUp, Conflict}
use Rattle.node.specs.Nodes.{Value, Mode, Up, Stopped, Down, Node, IsFirstUnknown}
use Rattle.node.specs.Effects.{Effect, recorded, messages_of}
use Rattle.node.specs.Calls.{Call, tick, deliver, HasRound, Does}
use Rattle.node.specs.Endings.{Ending, Whole, Refused, Failed, Ends, Refuses, Contradicts}
use Rattle.world.specs.declared.event.Event.{Event}
use Rattle.world.specs.declared.event.Event.TheVariants.{Submit, Tick, Widen, Ask, Tell, Deliver, Arm, Crash, Restart, Replace, Keep}
use Rattle.world.specs.Worlds.{World, Moves, Becomes, CallsAt, Calls}
use Rattle.world.specs.Taking.{IsTaken, Takes, TakesAll}
use Rattle.world.proofs.Moving.{either}
use Rattle.world.specs.Quiet.{AllRun, AreCalm, to_each, each_to}

-- ---- modes

pub not_stopped : (m : Mode) → m ≡ Up → m ≡ Stopped → ⊥
not_stopped m up stopped = cc

pub not_down : (m : Mode) → m ≡ Up → m ≡ Down → ⊥
not_down m up down = cc

pub no_value : (v : Value) → ◌≡◌ {A = Option Value} None (Some v) → ⊥
no_value v x = cc

-- ---- causes

pub tick_cause : (s : Node) (i : ℕ) → IsFirstUnknown s.known i → HasRound s → (cause : NodeFault) → IsTaken (Refused cause) → Refuses s tick cause → s.mode ≡ Stopped
tick_cause s i first round OutOfMemory allowed h = absurd allowed
tick_cause s i first round Device allowed h = absurd h.1
tick_cause s i first round IsStopped allowed h = h
tick_cause s i first round QueueFull allowed h = absurd h.1
tick_cause s i first round (NotACommand why) allowed h = absurd h.1
tick_cause s i first round InstancesUsedUp allowed h = let known = h.1 i first.instance in absurd (no_value known.0 (sym first.unknown ∙ known.1))
tick_cause s i first round RoundsUsedUp allowed h = absurd (h.1.2 round)
tick_cause s i first round Conflict allowed h = absurd h.1

pub deliver_cause : (s : Node) (m : Message) → ¬ Contradicts s m → (cause : NodeFault) → IsTaken (Refused cause) → Refuses s (deliver m) cause → s.mode ≡ Stopped
deliver_cause s m agrees OutOfMemory allowed h = absurd allowed
deliver_cause s m agrees Device allowed h = absurd h.1
deliver_cause s m agrees IsStopped allowed h = h
deliver_cause s m agrees QueueFull allowed h = absurd h.1
deliver_cause s m agrees (NotACommand why) allowed h = absurd h.1
deliver_cause s m agrees InstancesUsedUp allowed h = absurd h.1
deliver_cause s m agrees RoundsUsedUp allowed h = absurd h.1
deliver_cause s m agrees Conflict allowed h = absurd (agrees h.1)

-- ---- whole

-- the call at node q ends whole
pub record Acts (n : ℕ) (w : World) (q : ℕ) (call : Call) (after : World) : Type 0 where
  pub effect : Effect
  pub does : Does n q (w.node q) call effect
  pub at : after.node q ≡ recorded (w.node q) effect
  pub others : (r : ℕ) → r ≢ q → after.node r ≡ w.node r
  pub sent : after.sent ≡ w.sent ++ messages_of effect.out

module _ (n : ℕ) (w : World) (q : ℕ) (call : Call) (after : World) where
  abbrev mode_of : Node → Mode
  mode_of s = s.mode

  by_ending : ((cause : NodeFault) → IsTaken (Refused cause) → Refuses (w.node q) call cause → (w.node q).mode ≡ Stopped) → (after.node q).mode ≡ Up
      → (ending : Ending) → IsTaken ending → (out : List (To × Message)) (new : Node) → Ends n q (w.node q) call ending out new → Moves n w q (messages_of out) new after → Acts n w q call after
  by_ending none up Whole allowed out new ends moves = record {
    effect = ends.effect;
    does = ends.does;
    at = moves.at ∙ ends.node;
    others = moves.others;
    sent = moves.sent ∙ ap (λ (l : List (To × Message)). w.sent ++ messages_of l) ends.handed_out;
  }
  by_ending none up (Refused cause) allowed out new ends moves =
      absurd (not_stopped (after.node q).mode up (ap mode_of (moves.at ∙ ends.node) ∙ none cause allowed ends.refuses))
  by_ending none up Failed allowed out new ends moves = absurd (not_stopped (after.node q).mode up (ap mode_of (moves.at ∙ ends.node)))

  pub acts_of : ((cause : NodeFault) → IsTaken (Refused cause) → Refuses (w.node q) call cause → (w.node q).mode ≡ Stopped) → (after.node q).mode ≡ Up → Calls n IsTaken w q call after → Acts n w q call after
  acts_of none up how =
      ⊎_elim
      (λ (c : CallsAt n IsTaken w q call after). by_ending none up c.ending c.allowed c.out c.new c.ends c.moves)
      (λ (c : ((w.node q).mode ≡ Down) × Becomes n w q (w.node q) after). absurd (not_down (after.node q).mode up (ap mode_of c.1.at ∙ c.0)))
      how

  -- a node that runs after a call ran before it
  up_by_ending : (r : ℕ) → (after.node r).mode ≡ Up → (ending : Ending) → (out : List (To × Message)) (new : Node) → Ends n q (w.node q) call ending out new → Moves n w q (messages_of out) new after
      → (r ≡ q) ⊎ (r ≢ q) → (w.node r).mode ≡ Up
  up_by_ending r up ending out new ends moves (inr apart) = ap mode_of (sym (moves.others r apart)) ∙ up
  up_by_ending r up Whole out new ends moves (inl e) = subst (λ x. (w.node x).mode ≡ Up) (sym e) ends.running
  up_by_ending r up (Refused cause) out new ends moves (inl e) =
      subst (λ x. (w.node x).mode ≡ Up) (sym e) (ap mode_of (sym (moves.at ∙ ends.node)) ∙ subst (λ x. (after.node x).mode ≡ Up) e up)
  up_by_ending r up Failed out new ends moves (inl e) = subst (λ x. (w.node x).mode ≡ Up) (sym e) ends.running

  pub up_before : Calls n IsTaken w q call after → (r : ℕ) → (after.node r).mode ≡ Up → (w.node r).mode ≡ Up
  up_before how r up =
      ⊎_elim
      (λ (c : CallsAt n IsTaken w q call after). up_by_ending r up c.ending c.out c.new c.ends c.moves (either r q))
      (λ (c : ((w.node q).mode ≡ Down) × Becomes n w q (w.node q) after).
      ⊎_elim
      (λ (e : r ≡ q). absurd (not_down (after.node q).mode (subst (λ x. (after.node x).mode ≡ Up) e up) (ap mode_of c.1.at ∙ c.0)))
      (λ apart. ap mode_of (sym (c.1.others r apart)) ∙ up)
      (either r q))
      how

  -- a relation between nodes, which holds of each node with itself, holds over a call if it holds at the
  -- call's node
  pub for_each : (P : Node → Node → Type 0) → ((s : Node) → P s s) → (acts : Acts n w q call after) → P (w.node q) (recorded (w.node q) acts.effect) → (r : ℕ) → P (w.node r) (after.node r)
  for_each P same acts here r =
      ⊎_elim
      (λ (e : r ≡ q). subst (λ x. P (w.node x) (after.node x)) (sym e) (subst (λ y. P (w.node q) y) (sym acts.at) here))
      (λ apart. subst (λ y. P (w.node r) y) (sym (acts.others r apart)) (same (w.node r)))
      (either r q)

-- ---- events

inside_message : (m x : Message) → Some m ≡ Some x → m ≡ x
inside_message m x e = cc

pub tick_acts : (n : ℕ) (w : World) (p i : ℕ) (after : World) → IsFirstUnknown (w.node p).known i → HasRound (w.node p) → (after.node p).mode ≡ Up → Takes n w (Tick p) after → Acts n w p tick after
tick_acts n w p i after first round up how = acts_of n w p tick after (tick_cause (w.node p) i first round) up how

pub deliver_acts : (n : ℕ) (w : World) (q index : ℕ) (m : Message) (after : World) → slice_get w.sent index ≡ Some m → ¬ Contradicts (w.node q) m → (after.node q).mode ≡ Up
    → Takes n w (Deliver q index) after → Acts n w q (deliver m) after
deliver_acts n w q index m after at agrees up how =
    let same : how.message ≡ m = inside_message how.message m (sym how.was_sent ∙ at) in
    acts_of n w q (deliver m) after (deliver_cause (w.node q) m agrees) up (subst (λ x. Calls n IsTaken w q (deliver x) after) same how.calls)

-- ---- lists of events

module _ (n : ℕ) where
  pub run_before : (events : List Event) (w after : World) → AreCalm events → TakesAll n w events after → AllRun n after → AllRun n w
  run_before [] w after calm how up = subst (AllRun n) how up
  run_before (Tick p ∷ events) w after calm how up = λ r is. up_before n w p tick how.0 how.1 r (run_before events how.0 after calm how.2 up r is)
  run_before (Deliver p k ∷ events) w after calm how up = λ r is. up_before n w p (deliver how.1.message) how.0 how.1.calls r (run_before events how.0 after calm how.2 up r is)
  run_before (Submit p v ∷ events) w after calm how up = absurd calm
  run_before (Widen p ∷ events) w after calm how up = absurd calm
  run_before (Ask p ∷ events) w after calm how up = absurd calm
  run_before (Tell p i ∷ events) w after calm how up = absurd calm
  run_before (Arm p k ∷ events) w after calm how up = absurd calm
  run_before (Crash p k ∷ events) w after calm how up = absurd calm
  run_before (Restart p ∷ events) w after calm how up = absurd calm
  run_before (Replace p floor ∷ events) w after calm how up = absurd calm
  run_before (Keep p i ∷ events) w after calm how up = absurd calm

  pub split_at : (xs ys : List Event) (w after : World) → TakesAll n w (xs ++ ys) after → (mid : World) × TakesAll n w xs mid × TakesAll n mid ys after
  split_at [] ys w after how = (w, refl, how)
  split_at (x ∷ xs) ys w after how = let rest = split_at xs ys how.0 after how.2 in (rest.0, (how.0, how.1, rest.1), rest.2)

pub calm_to_each : (index q k : ℕ) → AreCalm (to_each index q k)
calm_to_each index q zero = tt
calm_to_each index q (suc k) = calm_to_each index (suc q) k

pub calm_each_to : (p index k : ℕ) → AreCalm (each_to p index k)
calm_each_to p index zero = tt
calm_each_to p index (suc k) = calm_each_to p (suc index) k

pub calm_both : (xs ys : List Event) → AreCalm xs → AreCalm ys → AreCalm (xs ++ ys)
calm_both [] ys a b = b
calm_both (Tick p ∷ xs) ys a b = calm_both xs ys a b
calm_both (Deliver p k ∷ xs) ys a b = calm_both xs ys a b
calm_both (Submit p v ∷ xs) ys a b = absurd a
calm_both (Widen p ∷ xs) ys a b = absurd a
calm_both (Ask p ∷ xs) ys a b = absurd a
calm_both (Tell p i ∷ xs) ys a b = absurd a
calm_both (Arm p k ∷ xs) ys a b = absurd a
calm_both (Crash p k ∷ xs) ys a b = absurd a
calm_both (Restart p ∷ xs) ys a b = absurd a
calm_both (Replace p floor ∷ xs) ys a b = absurd a
calm_both (Keep p i ∷ xs) ys a b = absurd a
