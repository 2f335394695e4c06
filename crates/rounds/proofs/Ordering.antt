-- In each schedule the nodes are in their ranges, and what is handed out is messages.
use Rattle.std.proofs.Common.{◌≡◌, ◌≢◌, ◌⊎◌, ⊎_elim, ℕ, true, Option, Some, None, List, [], ◌∷◌}
use Rattle.std.proofs.Common.{refl, sym, ap, subst, ◌∙◌, arith}
use Rattle.site_ids.specs.Ids.{IsNode, IsInstance}
use Rattle.site_ids.specs.Lists.{In}
use Rattle.site_ids.proofs.MemberLemmas.{in_get, in_split}
use Rattle.wire.specs.declared.message.Message.{Message}
use Rattle.wire.specs.Messages.{IsMessage}
use Rattle.durable.specs.Entries.{Entry, Floor, with_entry}
use Rattle.durable.specs.Histories.{MayFollow, IsHistory}
use Rattle.durable.specs.Keeping.{Settles}
use Rattle.durable.proofs.Push.{history-push, history-none}
use Rattle.node.specs.declared.to.To.{To}
use Rattle.node.specs.declared.to.To.TheVariants.{All}
use Rattle.node.specs.Nodes.{Mode, Up, Stopped, Down, Node, opened}
use Rattle.node.specs.Effects.{messages_of, recorded}
use Rattle.node.specs.Calls.{Call, submit, tick, widen, ask, tell, deliver, keep}
use Rattle.node.specs.Endings.{Ending, Whole, Refused, Failed, Ends}
use Rattle.node.specs.Ranges.{HasRanges, IsCallInRange}
use Rattle.node.specs.Tidy.{IsTidy}
use Rattle.node.proofs.Ranging.{opens_in_range, stays_in_range, says_messages}
use Rattle.node.proofs.Tidying.{opens_tidy, stays_tidy}
use Rattle.world.specs.declared.event.Event.{Event}
use Rattle.world.specs.declared.event.Event.TheVariants.{Submit, Tick, Widen, Ask, Tell, Deliver, Arm, Crash}
use Rattle.world.specs.declared.event.Event.TheVariants.{Restart, Replace, Keep}
use Rattle.world.specs.Worlds.{World, Moves, Becomes, CallsAt, Calls, AnyEnding, HappensIn, RefusesOpening}
use Rattle.world.specs.Worlds.{Runs, start}
use Rattle.world.proofs.Lists.{in_map}
use Rattle.rounds.specs.Agreeing.{SchedulesSayMessages}
use Rattle.rounds.proofs.Awaiting.{AreAwaiting, none_await, call_awaits}
use Rattle.rounds.proofs.Following.{call_follows}

no_entry : (e : Entry) → ◌≡◌ {A = Option Entry} None (Some e) → ⊥
no_entry e x = cc

inside_entry : (a b : Entry) → Some a ≡ Some b → a ≡ b
inside_entry a b e = cc

-- ---- a node

-- Its record is a history, also with the entry in flight. The rest of it is tidy and in its ranges. An
-- attempt
-- that proposed nothing has too few answers
pub record IsOrderly (n : ℕ) (s : Node) : Type 0 where
  pub history : IsHistory n s.entries
  pub settled : IsHistory n (with_entry s.entries s.in_flight)
  pub none : s.mode ≡ Up → s.in_flight ≡ None
  pub tidy : IsTidy s
  pub ranges : HasRanges n s
  pub awaiting : AreAwaiting n s.attempts

pub opened_orderly : (n : ℕ) (mode : Mode) (entries : List Entry) → IsHistory n entries
    → IsOrderly n (opened mode entries None)
opened_orderly n mode entries history = record {
  history = history;
  settled = history;
  none = λ up. refl;
  tidy = opens_tidy mode entries None;
  ranges = opens_in_range n mode entries None;
  awaiting = none_await n;
}

settles : (n : ℕ) (s : Node) (entries : List Entry) → IsOrderly n s → Settles s.entries s.in_flight entries
    → IsHistory n entries
settles n s entries orderly how =
    ⊎_elim
    (λ (e : entries ≡ s.entries). subst (IsHistory n) (sym e) orderly.history)
    (λ (e : entries ≡ with_entry s.entries s.in_flight). subst (IsHistory n) (sym e) orderly.settled)
    how

with_one : (n : ℕ) (es : List Entry) (o : Option Entry) → IsHistory n es
    → ((e : Entry) → o ≡ Some e → MayFollow n es e) → IsHistory n (with_entry es o)
with_one n es None history follows = history
with_one n es (Some e) history follows = history-push n es e history (follows e refl)

stopped_up : Stopped ≡ Up → ⊥
stopped_up e = cc

down_up : Down ≡ Up → ⊥
down_up e = cc

-- a call keeps it so
pub call_orderly : (n p : ℕ) (s new : Node) (call : Call) (ending : Ending) (out : List (To × Message))
    → IsNode n p → IsCallInRange n call → IsOrderly n s → Ends n p s call ending out new → IsOrderly n new
call_orderly n p s new call Whole out node is orderly ends =
    let follows = call_follows n p s call ends.effect orderly.ranges is ends.does in
    let history : IsHistory n (recorded s ends.effect).entries = with_one n s.entries ends.effect.entry
    orderly.history follows.may in
    let none : ends.effect.after.in_flight ≡ None = follows.flight ∙ orderly.none ends.running in
    record {
      history = subst (λ (t : Node). IsHistory n t.entries) (sym ends.node) history;
      settled = subst (λ (t : Node). IsHistory n (with_entry t.entries t.in_flight)) (sym ends.node)
          (subst (λ o. IsHistory n (with_entry (recorded s ends.effect).entries o)) (sym none) history);
      none = λ up. ap (λ (t : Node). t.in_flight) ends.node ∙ none;
      tidy = stays_tidy n p s new call Whole out ends orderly.tidy;
      ranges = stays_in_range n p s new call Whole out node orderly.ranges is ends;
      awaiting = subst (λ (t : Node). AreAwaiting n t.attempts) (sym ends.node)
          (call_awaits n p s call ends.effect is orderly.awaiting ends.does);
    }
call_orderly n p s new call (Refused cause) out node is orderly ends = subst (IsOrderly n) (sym ends.node)
    orderly
call_orderly n p s new call Failed out node is orderly ends =
    let follows = call_follows n p s call ends.effect orderly.ranges is ends.does in
    record {
      history = subst (λ (t : Node). IsHistory n t.entries) (sym ends.node) orderly.history;
      settled = subst (λ (t : Node). IsHistory n (with_entry t.entries t.in_flight)) (sym ends.node)
          (history-push n s.entries ends.entry orderly.history (follows.may ends.entry ends.puts));
      none = λ up. absurd (stopped_up (sym (ap (λ (t : Node). t.mode) ends.node) ∙ up));
      tidy = stays_tidy n p s new call Failed out ends orderly.tidy;
      ranges = stays_in_range n p s new call Failed out node orderly.ranges is ends;
      awaiting = subst (λ (t : Node). AreAwaiting n t.attempts) (sym ends.node) orderly.awaiting;
    }

-- ---- a world

-- its nodes are so, and messages were handed out
pub record AreOrderly (n : ℕ) (w : World) : Type 0 where
  pub nodes : (p : ℕ) → IsNode n p → IsOrderly n (w.node p)
  pub messages : (m : Message) → In w.sent m → IsMessage n m

start_orderly : (n : ℕ) → AreOrderly n start
start_orderly n = record {
  nodes = λ p node. opened_orderly n Up [] (history-none n);
  messages = λ m k. absurd k;
}

either : (p q : ℕ) → (p ≡ q) ⊎ (p ≢ q)
either p q = grind arith

module _ (n : ℕ) (w after : World) (good : AreOrderly n w) where
  moved : (p : ℕ) (out : List Message) (new : Node) → Moves n w p out new after → IsOrderly n new
      → ((m : Message) → In out m → IsMessage n m) → AreOrderly n after
  moved p out new moves orderly says = record {
    nodes = λ q node. ⊎_elim
        (λ (e : q ≡ p). subst (λ r. IsOrderly n (after.node r)) (sym e)
        (subst (IsOrderly n) (sym moves.at) orderly))
        (λ (apart : q ≢ p). subst (IsOrderly n) (sym (moves.others q apart)) (good.nodes q node))
        (either q p);
    messages = λ m k. ⊎_elim (λ old. good.messages m old) (λ new. says m new)
        (in_split w.sent out m (subst (λ l. In l m) moves.sent k));
  }

  becomes : (p : ℕ) (new : Node) → Becomes n w p new after → IsOrderly n new → AreOrderly n after
  becomes p new moves orderly = moved p [] new moves orderly (λ m k. absurd k)

  called : (p : ℕ) (call : Call) → IsCallInRange n call → Calls n AnyEnding w p call after
      → AreOrderly n after
  called p call is how =
      ⊎_elim
      (λ (x : CallsAt n AnyEnding w p call after).
      let node = x.moves.in_cluster in
      let s = good.nodes p node in
      moved p (messages_of x.out) x.new x.moves
      (call_orderly n p (w.node p) x.new call x.ending x.out node is s x.ends)
      (λ m k. let from = in_map (λ (y : To × Message). y.1) x.out m k in
      subst (IsMessage n) from.2
      (says_messages n p (w.node p) x.new call x.ending x.out node s.history s.tidy s.ranges is x.ends from.0
      from.1)))
      (λ (x : ((w.node p).mode ≡ Down) × Becomes n w p (w.node p) after). becomes p (w.node p) x.1
      (good.nodes p x.1.in_cluster))
      how

  armed : (p : ℕ) → IsOrderly n (w.node p) → IsOrderly n (record (w.node p) { armed = true })
  armed p s = record {
    history = s.history;
    settled = s.settled;
    none = s.none;
    tidy = s.tidy;
    ranges = record { known = s.ranges.known; pending = s.ranges.pending; attempts = s.ranges.attempts };
    awaiting = s.awaiting;
  }

  floor_history : (floor : ℕ) → IsInstance floor → IsHistory n (Floor floor ∷ [])
  floor_history floor instance = history-push n [] (Floor floor) (history-none n)
      (record { in_range = instance; advances = refl })

  happened : (event : Event) → HappensIn n AnyEnding w event after → AreOrderly n after
  happened (Submit p v) how = called p (submit v) tt how
  happened (Tick p) how = called p tick tt how
  happened (Widen p) how = called p widen tt how
  happened (Ask p) how = called p ask tt how
  happened (Tell p i) how = called p (tell All i) tt how
  happened (Deliver p index) how = called p (deliver how.message)
      (good.messages how.message (in_get w.sent index how.message how.was_sent)) how.calls
  happened (Arm p calls) how =
      ⊎_elim
      (λ (x : ((w.node p).mode ≢ Down) × Becomes n w p (record (w.node p) { armed = true }) after).
      becomes p (record (w.node p) { armed = true }) x.1 (armed p (good.nodes p x.1.in_cluster)))
      (λ (x : ((w.node p).mode ≡ Down) × Becomes n w p (w.node p) after). becomes p (w.node p) x.1
      (good.nodes p x.1.in_cluster))
      how
  happened (Crash p choice) how = becomes p (opened Down how.entries None) how.becomes
      (opened_orderly n Down how.entries (settles n (w.node p) how.entries
      (good.nodes p how.becomes.in_cluster) how.settles))
  happened (Restart p) how = becomes p (opened Up how.entries None) how.becomes
      (opened_orderly n Up how.entries (settles n (w.node p) how.entries
      (good.nodes p how.becomes.in_cluster) how.settles))
  happened (Replace p floor) how = becomes p (opened Down (Floor floor ∷ []) None) how.becomes
      (opened_orderly n Down (Floor floor ∷ []) (floor_history floor how.is_floor.instance))
  happened (Keep p i) how = called p (keep i) tt how

  refused : (event : Event) → RefusesOpening n w event after → AreOrderly n after
  refused (Submit p v) how = absurd how
  refused (Tick p) how = absurd how
  refused (Widen p) how = absurd how
  refused (Ask p) how = absurd how
  refused (Tell p i) how = absurd how
  refused (Deliver p index) how = absurd how
  refused (Arm p calls) how = absurd how
  refused (Crash p choice) how = absurd how
  refused (Replace p floor) how = absurd how
  refused (Keep p i) how = absurd how
  refused (Restart p) how =
      let s = good.nodes p how.in_cluster in
      becomes p (opened Down (w.node p).entries (w.node p).in_flight) how (record {
        history = s.history;
        settled = s.settled;
        none = λ up. absurd (down_up up);
        tidy = opens_tidy Down (w.node p).entries (w.node p).in_flight;
        ranges = opens_in_range n Down (w.node p).entries (w.node p).in_flight;
        awaiting = none_await n;
      })

pub stay_orderly : (n : ℕ) (events : List Event) (w after : World) → AreOrderly n w → Runs n w events after
    → AreOrderly n after
stay_orderly n [] w after good how = subst (AreOrderly n) (sym how) good
stay_orderly n (event ∷ events) w after good how =
    stay_orderly n events how.0 after
    (⊎_elim (λ x. happened n w how.0 good event x) (λ x. refused n w how.0 good event x) how.1) how.2

pub are_orderly : (n : ℕ) (events : List Event) (w : World) → Runs n start events w → AreOrderly n w
are_orderly n events w how = stay_orderly n events start w (start_orderly n) how

pub schedules_say_messages : SchedulesSayMessages
schedules_say_messages n events w how = (are_orderly n events w how).messages
