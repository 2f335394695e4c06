-- A batch of calls is a run of its events. If it is cut short, it is a crash before the first of them or
-- after the last one.
use Rattle.std.proofs.Common.{◌≡◌, inl, inr, ℕ, Option, Some, None, List, [], ◌∷◌, ◌++◌, map, refl, sym, ap, subst, ◌∙◌, ⊎_elim, append-nil, append_assoc}
use Rattle.std.proofs.lemmas.List.{map-append}
use Rattle.site_ids.specs.Ids.{IsNode}
use Rattle.site_ids.specs.Lists.{In, put_at}
use Rattle.wire.specs.declared.message.Message.{Message}
use Rattle.durable.specs.Entries.{Entry}
use Rattle.durable.specs.Keeping.{Settles, IsFound}
use Rattle.node.specs.declared.fault.NodeFault.{NodeFault}
use Rattle.node.specs.declared.fault.NodeFault.TheVariants as fault
use Rattle.node.specs.declared.to.To.{To}
use Rattle.node.specs.declared.to.To.TheVariants.{All}
use Rattle.node.specs.Nodes.{Up, Down, Node, opened}
use Rattle.node.specs.Effects.{messages_of, recorded}
use Rattle.node.specs.Tellings.{addressed, tells, told_from}
use Rattle.node.specs.Calls.{Call, submit, tick, widen, ask, tell, deliver, keep}
use Rattle.node.specs.Endings.{Ending, Whole, Refused, Failed, Refuses, Ends}
use Rattle.world.specs.declared.event.Event.{Event}
use Rattle.world.specs.declared.event.Event.TheVariants.{Submit, Tick, Widen, Ask, Tell, Deliver, Crash, Restart, Keep}
use Rattle.world.specs.Worlds.{World, Moves, CallsAt, AnyEnding, Happens, start}
use Rattle.world.specs.Batches.{AllEnd, IsEventOf, AreEventsOf, IsBatch, LeadTo, CrashesBehind, CallsAreEvents, OthersComeFirst, SealedIsARun, CrashIsARun, OpeningIsARun, BatchesAgree}
use Rattle.site_ids.proofs.MapLemmas.{put_here, put_other}
use Rattle.world.proofs.Growing.{event_changes, runs_on}
use Rattle.world.proofs.Published.{answers_alike, one_list_answers, place_of}
use Rattle.world.proofs.QuietLists.{get_left}

-- ---- the events

event_of : (p : ℕ) (sent : List Message) (call : Call) → ((m : Message) → call ≡ deliver m → In sent m) → (event : Event) × IsEventOf p sent call event
event_of p sent (submit v) was = (Submit p v, refl)
event_of p sent tick was = (Tick p, refl)
event_of p sent widen was = (Widen p, refl)
event_of p sent ask was = (Ask p, refl)
event_of p sent (tell to i) was = (Tell p i, refl)
event_of p sent (keep i) was = (Keep p i, refl)
event_of p sent (deliver m) was = let at = place_of sent m (was m refl) in (Deliver p at.0, (at.0, at.1, refl))

pub calls_are_events : CallsAreEvents
calls_are_events p sent [] was = ([], tt)
calls_are_events p sent (call ∷ calls) was =
    let one = event_of p sent call (λ m e. was m (inl e)) in
    let rest = calls_are_events p sent calls (λ m k. was m (inr k)) in
    (one.0 ∷ rest.0, (one.1, rest.1))

-- messages that come after those change nothing of it
event_stays : (p : ℕ) (sent more : List Message) (call : Call) (event : Event) → IsEventOf p sent call event → IsEventOf p (sent ++ more) call event
event_stays p sent more (submit v) event is = is
event_stays p sent more tick event is = is
event_stays p sent more widen event is = is
event_stays p sent more ask event is = is
event_stays p sent more (tell to i) event is = is
event_stays p sent more (keep i) event is = is
event_stays p sent more (deliver m) event is = (is.0, get_left sent more is.0 m is.1, is.2)

events_stay : (p : ℕ) (sent more : List Message) (calls : List Call) (events : List Event) → AreEventsOf p sent calls events → AreEventsOf p (sent ++ more) calls events
events_stay p sent more [] [] are = are
events_stay p sent more [] (event ∷ events) are = absurd are
events_stay p sent more (call ∷ calls) [] are = absurd are
events_stay p sent more (call ∷ calls) (event ∷ events) are = (event_stays p sent more call event are.0, events_stay p sent more calls events are.1)

-- so it is if other nodes do something first
pub others_come_first : OthersComeFirst
others_come_first n w later [] events p out next apart how batch = subst (λ (x : World). IsBatch n x events p out next) (sym how) batch
others_come_first n w later (event ∷ between) events p out next apart how batch =
    let c = event_changes n w how.0 event how.1 in
    let same : how.0.node p ≡ w.node p = c.2.others p (λ e. apart event (inl refl) (sym e)) in
    others_come_first n how.0 later between events p out next (λ e k. apart e (inr k)) how.2 (record {
      calls = batch.calls;
      in_cluster = batch.in_cluster;
      are_events = subst (λ sent. AreEventsOf p sent batch.calls events) (sym c.2.sent) (events_stay p w.sent c.0 batch.calls events batch.are_events);
      ends = subst (λ s. AllEnd n p s batch.calls out next) (sym same) batch.ends;
    })

-- ---- a telling is the same messages whoever it is for

all_told : (to : To) (ms : List Message) → messages_of (map (addressed to) ms) ≡ ms
all_told to [] = refl
all_told to (m ∷ ms) = ap (λ l. m ∷ l) (all_told to ms)

refuses_all : (s : Node) (to : To) (i : ℕ) (cause : NodeFault) → Refuses s (tell to i) cause → Refuses s (tell All i) cause
refuses_all s to i fault.OutOfMemory why = why
refuses_all s to i fault.Device why = why
refuses_all s to i fault.Stopped why = why
refuses_all s to i fault.QueueFull why = why
refuses_all s to i (fault.NotACommand by) why = why
refuses_all s to i fault.InstancesUsedUp why = why
refuses_all s to i fault.RoundsUsedUp why = why
refuses_all s to i fault.Conflict why = why

nothing_put : (e : Entry) → ◌≡◌ {A = Option Entry} None (Some e) → ⊥
nothing_put e x = cc

telling_ends : (n p : ℕ) (s : Node) (to : To) (i : ℕ) (ending : Ending) (out : List (To × Message)) (new : Node) → Ends n p s (tell to i) ending out new
    → (all : List (To × Message)) × (messages_of all ≡ messages_of out) × Ends n p s (tell All i) ending all new
telling_ends n p s to i Whole out new ends =
    let said : List Message = told_from p s i in (
      map (addressed All) said,
      all_told All said ∙ sym (all_told to said) ∙ sym (ap (λ e. messages_of e.out) ends.does) ∙ sym (ap messages_of ends.handed_out),
      record { effect = tells p s All i; running = ends.running; does = refl; handed_out = refl; node = ends.node ∙ ap (recorded s) ends.does },
    )
telling_ends n p s to i (Refused cause) out new ends = ([], sym (ap messages_of ends.nothing), record { refuses = refuses_all s to i cause ends.refuses; nothing = refl; node = ends.node })
telling_ends n p s to i Failed out new ends = absurd (nothing_put ends.entry (sym (ap (λ e. e.entry) ends.does) ∙ ends.puts))

-- ---- one node moves

abbrev changed : World → ℕ → List Message → Node → World
changed w p out new = record { node = put_at w.node p new; sent = w.sent ++ out }

moves : (n : ℕ) (w : World) (p : ℕ) (out : List Message) (new : Node) → IsNode n p → Moves n w p out new (changed w p out new)
moves n w p out new node = record { in_cluster = node; at = put_here w.node p new p refl; others = λ q apart. put_other w.node p new q apart; sent = refl }

moves_on : (n : ℕ) (w mid after : World) (p : ℕ) (first then out : List Message) (s new : Node) → Moves n w p first s mid → Moves n mid p then new after → out ≡ first ++ then → Moves n w p out new after
moves_on n w mid after p first then out s new one two joined = record {
  in_cluster = one.in_cluster;
  at = two.at;
  others = λ q apart. two.others q apart ∙ one.others q apart;
  sent = two.sent ∙ ap (λ l. l ++ then) one.sent ∙ append_assoc w.sent first then ∙ ap (λ l. w.sent ++ l) (sym joined);
}

stays : (n : ℕ) (w : World) (p : ℕ) (new : Node) → IsNode n p → w.node p ≡ new → LeadTo n w [] p [] new
stays n w p new node is = record { after = w; runs = refl; moves = record { in_cluster = node; at = is; others = λ q apart. refl; sent = sym (append-nil w.sent) } }

-- ---- a call

call_happens : (n : ℕ) (w : World) (p : ℕ) (call : Call) (ending : Ending) (out : List (To × Message)) (new : Node) → IsNode n p → Ends n p (w.node p) call ending out new
    → CallsAt n AnyEnding w p call (changed w p (messages_of out) new)
call_happens n w p call ending out new node ends = record { ending = ending; out = out; new = new; allowed = tt; ends = ends; moves = moves n w p (messages_of out) new node }

happens : (n : ℕ) (w : World) (p : ℕ) (call : Call) (event : Event) (ending : Ending) (out : List (To × Message)) (new : Node) → IsNode n p → IsEventOf p w.sent call event → Ends n p (w.node p) call ending out new
    → Happens n w event (changed w p (messages_of out) new)
happens n w p (submit v) event ending out new node is ends =
    subst (λ e. Happens n w e (changed w p (messages_of out) new)) (sym is) (inl (inl (call_happens n w p (submit v) ending out new node ends)))
happens n w p tick event ending out new node is ends = subst (λ e. Happens n w e (changed w p (messages_of out) new)) (sym is) (inl (inl (call_happens n w p tick ending out new node ends)))
happens n w p widen event ending out new node is ends = subst (λ e. Happens n w e (changed w p (messages_of out) new)) (sym is) (inl (inl (call_happens n w p widen ending out new node ends)))
happens n w p ask event ending out new node is ends = subst (λ e. Happens n w e (changed w p (messages_of out) new)) (sym is) (inl (inl (call_happens n w p ask ending out new node ends)))
happens n w p (keep i) event ending out new node is ends = subst (λ e. Happens n w e (changed w p (messages_of out) new)) (sym is) (inl (inl (call_happens n w p (keep i) ending out new node ends)))
happens n w p (tell to i) event ending out new node is ends =
    let all = telling_ends n p (w.node p) to i ending out new ends in
    subst (λ e. Happens n w e (changed w p (messages_of out) new)) (sym is)
    (inl (inl (subst (λ ms. CallsAt n AnyEnding w p (tell All i) (changed w p ms new)) all.1 (call_happens n w p (tell All i) ending all.0 new node all.2))))
happens n w p (deliver m) event ending out new node is ends =
    subst (λ e. Happens n w e (changed w p (messages_of out) new)) (sym is.2)
    (inl (record { message = m; was_sent = is.1; calls = inl (call_happens n w p (deliver m) ending out new node ends) }))

-- ---- all of them

calls_lead : (n p : ℕ) (calls : List Call) (events : List Event) (w : World) (s : Node) (out : List (To × Message)) (next : Node) → IsNode n p → w.node p ≡ s → AreEventsOf p w.sent calls events
    → AllEnd n p s calls out next → LeadTo n w events p (messages_of out) next
calls_lead n p [] [] w s out next node at are ends = subst (λ l. LeadTo n w [] p (messages_of l) next) (sym ends.0) (stays n w p next node (at ∙ sym ends.1))
calls_lead n p [] (event ∷ events) w s out next node at are ends = absurd are
calls_lead n p (call ∷ calls) [] w s out next node at are ends = absurd are
calls_lead n p (call ∷ calls) (event ∷ events) w s out next node at are (ending, first, mid, then, ends, rest, joined) =
    let w1 : World = changed w p (messages_of first) mid in
    let one = moves n w p (messages_of first) mid node in
    let on = calls_lead n p calls events w1 mid then next node one.at (events_stay p w.sent (messages_of first) calls events are.1) rest in
    record {
      after = on.after;
      runs = (w1, happens n w p call event ending first mid node are.0 (subst (λ x. Ends n p x call ending first mid) (sym at) ends), on.runs);
      moves = moves_on n w w1 on.after p (messages_of first) (messages_of then) (messages_of out) mid next one on.moves (ap messages_of joined ∙ map-append (λ (x : To × Message). x.1) first then);
    }

pub sealed_is_a_run : SealedIsARun
sealed_is_a_run n w events p out next batch = calls_lead n p batch.calls events w (w.node p) out next batch.in_cluster refl batch.are_events batch.ends

-- ---- one event more, which hands out nothing

leads_on : (n : ℕ) (w : World) (events : List Event) (p : ℕ) (out : List Message) (s : Node) (event : Event) (new : Node) → IsNode n p → ((mid : World) → mid.node p ≡ s → Happens n mid event (changed mid p [] new))
    → LeadTo n w events p out s → LeadTo n w (events ++ event ∷ []) p out new
leads_on n w events p out s event new node does to =
    let after : World = changed to.after p [] new in
    record {
      after = after;
      runs = runs_on n events (event ∷ []) w to.after after to.runs (after, does to.after to.moves.at, refl);
      moves = moves_on n w to.after after p out [] out s new to.moves (moves n to.after p [] new node) (sym (append-nil out));
    }

crashes : (n : ℕ) (w : World) (events : List Event) (p : ℕ) (out : List Message) (s : Node) (entries : List Entry) → IsNode n p → Settles s.entries s.in_flight entries → LeadTo n w events p out s
    → CrashesBehind n w events p out entries
crashes n w events p out s entries node settles to choice = leads_on n w events p out s (Crash p choice) (opened Down entries None) node
    (λ mid at. inl (record { entries = entries; settles = subst (λ (x : Node). Settles x.entries x.in_flight entries) (sym at) settles; becomes = moves n mid p [] (opened Down entries None) node }))
    to

pub crash_is_a_run : CrashIsARun
crash_is_a_run n w events p out next batch file is = ⊎_elim
    (λ (x : IsFound p n (w.node p).entries (w.node p).in_flight file). (x.0, x.2, inl (crashes n w [] p [] (w.node p) x.0 batch.in_cluster x.1 (stays n w p (w.node p) batch.in_cluster refl))))
    (λ (x : IsFound p n next.entries next.in_flight file). (x.0, x.2, inr (crashes n w events p (messages_of out) next x.0 batch.in_cluster x.1 (sealed_is_a_run n w events p out next batch))))
    is

pub opening_is_a_run : OpeningIsARun
opening_is_a_run n w p entries node down = leads_on n w [] p [] (opened Down entries None) (Restart p) (opened Up entries None) node
    (λ mid at. inl (record { entries = entries; settles = inl (sym (ap (λ (x : Node). x.entries) at)); becomes = moves n mid p [] (opened Up entries None) node }))
    (stays n w p (opened Down entries None) node down)

-- ---- the theorem

pub batches_agree : BatchesAgree
batches_agree n earlier w how events p out new to =
    let runs = runs_on n earlier events start w to.after how to.runs in
    record {
      runs = runs;
      as_one = one_list_answers n (earlier ++ events) to.after runs;
      alike = λ p q r xs ys a b path. answers_alike n w to.after (inl (record { events = earlier; more = events; first = how; second = to.runs })) p q r xs ys a b path;
    }
