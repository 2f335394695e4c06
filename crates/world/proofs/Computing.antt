-- Runs of a world by tables, computed, and that each event is taken.
use Rattle.std.proofs.Common.{◌≡◌, ◌≢◌, inl, inr, ⊎_elim, ℕ, zero, suc, ◌+◌, ◌≤◌, Bool, true, false, Option, Some, None, List, [], ◌∷◌, ◌++◌, map, refl, sym, subst}
use Rattle.std.specs.Prelude.{slice_get, nat_eq}
use Rattle.site_ids.specs.Ids.{IsNode, IsInstance}
use Rattle.site_ids.specs.Lists.{In}
use Rattle.site_ids.specs.Majorities.{Majority}
use Rattle.proposer.specs.declared.TheConstants.{MAX_ATTEMPTS}
use Rattle.site_ids.specs.declared.TheConstants.{MAX_INSTANCE}
use Rattle.wire.specs.declared.message.Message.{Message}
use Rattle.durable.specs.Entries.{Entry, Floor, reach_of, with_entry}
use Rattle.node.specs.declared.to.To.{To}
use Rattle.node.specs.declared.fault.NodeFault.TheVariants as fault
use Rattle.node.specs.declared.to.To.TheVariants.{All}
use Rattle.node.specs.Nodes.{Mode, Up, Stopped, Down, Node}
use Rattle.node.specs.Effects.{messages_of}
use Rattle.node.specs.Calls.{Call, submit, tick, widen, ask, tell, deliver, keep, Does}
use Rattle.node.specs.Endings.{Ending, Whole, Refused, Failed, Ends}
use Rattle.world.specs.declared.event.Event.{Event}
use Rattle.world.specs.declared.event.Event.TheVariants.{Submit, Tick, Widen, Ask, Tell, Deliver, Arm, Crash, Restart, Replace, Keep}
use Rattle.world.specs.Worlds.{Moves, Calls}
use Rattle.world.specs.Taking.{IsTaken, Takes, TakesAll}
use Rattle.site_ids.proofs.MapLemmas.{put_here, put_other}
use Rattle.world.proofs.Told.{Told, both, is_node, no_more, majority}
use Rattle.world.proofs.Tables.{NodeBy, node_by, opened_by, WorldBy, nodes_of, world_by, find, found}
use Rattle.world.proofs.DoingVotes.{Done}
use Rattle.world.proofs.Doing.{done}

-- an event, and how it goes if the definitions leave that open
pub data Step : Type 0 where
  as_is : (event : Event) → Step
  failing : (event : Event) → Step
  keeping : (event : Event) → Step

abbrev pub event_of : Step → Event
event_of (as_is event) = event
event_of (failing event) = event
event_of (keeping event) = event

abbrev pub events_of : List Step → List Event
events_of steps = map event_of steps

abbrev pub all_as_is : List Event → List Step
all_as_is [] = []
all_as_is (event ∷ events) = as_is event ∷ all_as_is events

-- ---- one node changes

abbrev pub moved : WorldBy → ℕ → NodeBy → List Message → WorldBy
moved w p new out = record { nodes = (p, new) ∷ w.nodes; sent = w.sent ++ out }

pub moves : (n : ℕ) (w : WorldBy) (p : ℕ) (new : NodeBy) (out : List Message) → IsNode n p → Moves n (world_by w) p out (node_by new) (world_by (moved w p new out))
moves n w p new out node = record {
  in_cluster = node;
  at = put_here (nodes_of w.nodes) p (node_by new) p refl;
  others = λ q apart. put_other (nodes_of w.nodes) p (node_by new) q apart;
  sent = refl;
}

-- ---- calls

abbrev pub Called : ℕ → WorldBy → ℕ → Call → Type 0
Called n w p call = (after : WorldBy) × Calls n IsTaken (world_by w) p call (world_by after)

pub call_ends : (n : ℕ) (w : WorldBy) (p : ℕ) (call : Call) (ending : Ending) (out : List (To × Message)) (new : NodeBy) → IsNode n p → IsTaken ending
    → Ends n p (node_by (find w.nodes p)) call ending out (node_by new) → Calls n IsTaken (world_by w) p call (world_by (moved w p new (messages_of out)))
call_ends n w p call ending out new node taken ends = inl (record {
  ending = ending;
  out = out;
  new = node_by new;
  allowed = taken;
  ends = subst (λ s. Ends n p s call ending out (node_by new)) (found w.nodes p) ends;
  moves = moves n w p new (messages_of out) node;
})

pub whole_ends : (n p : ℕ) (t : NodeBy) (call : Call) (did : Done (Does n p (node_by t) call)) → t.mode ≡ Up
    → Ends n p (node_by t) call Whole did.out (node_by (record (did.after) { entries = with_entry t.entries did.entry }))
whole_ends n p t call did up = record {
  effect = record { entry = did.entry; after = node_by did.after; out = did.out };
  running = up;
  does = did.does;
  handed_out = refl;
  node = refl;
}

pub failed_ends : (n p : ℕ) (t : NodeBy) (call : Call) (did : Done (Does n p (node_by t) call)) (entry : Entry) → t.mode ≡ Up → did.entry ≡ Some entry
    → Ends n p (node_by t) call Failed [] (node_by (record t { mode = Stopped; in_flight = Some entry }))
failed_ends n p t call did entry up puts = record {
  effect = record { entry = did.entry; after = node_by did.after; out = did.out };
  entry = entry;
  running = up;
  does = did.does;
  puts = puts;
  nothing = refl;
  node = refl;
}

pub stopped_ends : (n p : ℕ) (t : NodeBy) (call : Call) → t.mode ≡ Stopped → Ends n p (node_by t) call (Refused fault.Stopped) [] (node_by t)
stopped_ends n p t call stopped = record { refuses = stopped; nothing = refl; node = refl }

pub is_down : (n : ℕ) (w : WorldBy) (p : ℕ) (call : Call) → IsNode n p → (find w.nodes p).mode ≡ Down → Calls n IsTaken (world_by w) p call (world_by (moved w p (find w.nodes p) []))
is_down n w p call node down = inr (
  subst (λ (s : Node). s.mode ≡ Down) (found w.nodes p) down,
  subst (λ s. Moves n (world_by w) p [] s (world_by (moved w p (find w.nodes p) []))) (found w.nodes p) (moves n w p (find w.nodes p) [] node),
)

abbrev pub called : (n : ℕ) (w : WorldBy) (p : ℕ) (call : Call) → IsNode n p → Option (Called n w p call)
called n w p call node =
    let t = find w.nodes p in
    elim (t.mode) as (λ m. t.mode ≡ m → Option (Called n w p call)) [
      | Up ↦ λ up. elim (done n p t call) [
        | None ↦ None
        | Some did ↦
            let new : NodeBy = record (did.after) { entries = with_entry t.entries did.entry } in
            Some (moved w p new (messages_of did.out), call_ends n w p call Whole did.out new node tt (whole_ends n p t call did up))
      ]
      | Stopped ↦ λ stopped. Some (moved w p t [], call_ends n w p call (Refused fault.Stopped) [] t node tt (stopped_ends n p t call stopped))
      | Down ↦ λ down. Some (moved w p t [], is_down n w p call node down)
    ] refl

-- the device fails in the call's put
abbrev pub failed : (n : ℕ) (w : WorldBy) (p : ℕ) (call : Call) → IsNode n p → Option (Called n w p call)
failed n w p call node =
    let t = find w.nodes p in
    elim (t.mode) as (λ m. t.mode ≡ m → Option (Called n w p call)) [
      | Stopped ↦ λ stopped. None
      | Down ↦ λ down. None
      | Up ↦ λ up. elim (done n p t call) [
        | None ↦ None
        | Some did ↦ elim (did.entry) as (λ o. did.entry ≡ o → Option (Called n w p call)) [
          | None ↦ λ none. None
          | Some entry ↦ λ puts.
              let new : NodeBy = record t { mode = Stopped; in_flight = Some entry } in
              Some (moved w p new [], call_ends n w p call Failed [] new node tt (failed_ends n p t call did entry up puts))
        ] refl
      ]
    ] refl

-- ---- events

abbrev pub Happened : ℕ → WorldBy → Event → Type 0
Happened n w event = (after : WorldBy) × Takes n (world_by w) event (world_by after)

-- a call by either of the two, with its ending
abbrev pub Caller : Type 0
Caller = (n : ℕ) (w : WorldBy) (p : ℕ) (call : Call) → IsNode n p → Option (Called n w p call)

abbrev pub delivered : Caller → (n : ℕ) (w : WorldBy) (p index : ℕ) → IsNode n p → Option (Happened n w (Deliver p index))
delivered caller n w p index node = elim (slice_get w.sent index) as (λ o. slice_get w.sent index ≡ o → Option (Happened n w (Deliver p index))) [
  | None ↦ λ is. None
  | Some m ↦ λ is. elim (caller n w p (deliver m) node) [ None ↦ None | Some x ↦ Some (x.0, record { message = m; was_sent = is; calls = x.1 }) ]
] refl

pub arms : (n : ℕ) (w : WorldBy) (p calls : ℕ) → IsNode n p → (find w.nodes p).mode ≢ Down → Takes n (world_by w) (Arm p calls) (world_by (moved w p (record (find w.nodes p) { armed = true }) []))
arms n w p calls node up = inl (
  (λ down. up (subst (λ (s : Node). s.mode ≡ Down) (sym (found w.nodes p)) down)),
  subst (λ s. Moves n (world_by w) p [] (record s { armed = true }) (world_by (moved w p (record (find w.nodes p) { armed = true }) []))) (found w.nodes p)
      (moves n w p (record (find w.nodes p) { armed = true }) [] node),
)

pub arms_none : (n : ℕ) (w : WorldBy) (p calls : ℕ) → IsNode n p → (find w.nodes p).mode ≡ Down → Takes n (world_by w) (Arm p calls) (world_by (moved w p (find w.nodes p) []))
arms_none n w p calls node down = inr (
  subst (λ (s : Node). s.mode ≡ Down) (found w.nodes p) down,
  subst (λ s. Moves n (world_by w) p [] s (world_by (moved w p (find w.nodes p) []))) (found w.nodes p) (moves n w p (find w.nodes p) [] node),
)

pub up_not_down : (m : Mode) → m ≡ Up → m ≢ Down
up_not_down m up down = clash (sym up) down
  where
    clash : {m : Mode} → Up ≡ m → m ≡ Down → ⊥
    clash a b = cc

pub stopped_not_down : (m : Mode) → m ≡ Stopped → m ≢ Down
stopped_not_down m stopped down = clash (sym stopped) down
  where
    clash : {m : Mode} → Stopped ≡ m → m ≡ Down → ⊥
    clash a b = cc

abbrev pub armed : (n : ℕ) (w : WorldBy) (p calls : ℕ) → IsNode n p → Happened n w (Arm p calls)
armed n w p calls node =
    let t = find w.nodes p in
    elim (t.mode) as (λ m. t.mode ≡ m → Happened n w (Arm p calls)) [
      | Up ↦ λ up. (moved w p (record t { armed = true }) [], arms n w p calls node (up_not_down t.mode up))
      | Stopped ↦ λ stopped. (moved w p (record t { armed = true }) [], arms n w p calls node (stopped_not_down t.mode stopped))
      | Down ↦ λ down. (moved w p t [], arms_none n w p calls node down)
    ] refl

-- the record after a crash or an opening, with the entry in flight or without it
abbrev pub left : Bool → NodeBy → List Entry
left true t = with_entry t.entries t.in_flight
left false t = t.entries

pub crashes : (keeps : Bool) (n : ℕ) (w : WorldBy) (p choice : ℕ) → IsNode n p → Takes n (world_by w) (Crash p choice) (world_by (moved w p (opened_by Down (left keeps (find w.nodes p)) None) []))
crashes true n w p choice node = record {
  entries = left true (find w.nodes p);
  settles = inr (λ k. with_entry (found w.nodes p k).entries (found w.nodes p k).in_flight);
  becomes = moves n w p (opened_by Down (left true (find w.nodes p)) None) [] node;
}
crashes false n w p choice node = record {
  entries = left false (find w.nodes p);
  settles = inl (λ k. (found w.nodes p k).entries);
  becomes = moves n w p (opened_by Down (left false (find w.nodes p)) None) [] node;
}

pub opens : (keeps : Bool) (n : ℕ) (w : WorldBy) (p : ℕ) → IsNode n p → Takes n (world_by w) (Restart p) (world_by (moved w p (opened_by Up (left keeps (find w.nodes p)) None) []))
opens true n w p node = record {
  entries = left true (find w.nodes p);
  settles = inr (λ k. with_entry (found w.nodes p k).entries (found w.nodes p k).in_flight);
  becomes = moves n w p (opened_by Up (left true (find w.nodes p)) None) [] node;
}
opens false n w p node = record {
  entries = left false (find w.nodes p);
  settles = inl (λ k. (found w.nodes p k).entries);
  becomes = moves n w p (opened_by Up (left false (find w.nodes p)) None) [] node;
}

-- ---- a replacement: all other nodes are asked

-- the nodes 1 to n, without p
abbrev pub others : ℕ → ℕ → List ℕ
others p zero = []
others p (suc n) = elim (nat_eq (suc n) p) [ true ↦ others p n | false ↦ suc n ∷ others p n ]

abbrev pub AllAbove : WorldBy → ℕ → List ℕ → Type 0
AllAbove w floor qs = (q : ℕ) → In qs q → ((find w.nodes q).mode ≢ Down) × (reach_of (find w.nodes q).entries + MAX_ATTEMPTS ≤ floor)

pub down_is_down : ¬ (Down ≢ Down)
down_is_down other = other refl

abbrev pub not_down : (m : Mode) → Told (m ≢ Down)
not_down Up = inl (up_not_down Up refl)
not_down Stopped = inl (stopped_not_down Stopped refl)
not_down Down = inr down_is_down

abbrev pub all_above : (w : WorldBy) (floor : ℕ) (qs : List ℕ) → Told (AllAbove w floor qs)
all_above w floor [] = inl (λ q k. absurd k)
all_above w floor (p ∷ qs) = elim (both (not_down (find w.nodes p).mode) (no_more (reach_of (find w.nodes p).entries + MAX_ATTEMPTS) floor)) [
  | inr low ↦ inr (λ all. low (all p (inl refl)))
  | inl here ↦ elim (all_above w floor qs) [
    | inr low ↦ inr (λ all. low (λ q k. all q (inr k)))
    | inl later ↦ inl (λ q k. ⊎_elim (λ (same : p ≡ q). subst (λ r. ((find w.nodes r).mode ≢ Down) × (reach_of (find w.nodes r).entries + MAX_ATTEMPTS ≤ floor)) same here) (λ k. later q k) k)
  ]
]

pub replaces : (n : ℕ) (w : WorldBy) (p floor : ℕ) (asked : List ℕ) → IsNode n p → IsInstance floor → Majority n asked → AllAbove w floor asked
    → Takes n (world_by w) (Replace p floor) (world_by (moved w p (opened_by Down (Floor floor ∷ []) None) []))
replaces n w p floor asked node instance many above = record {
  is_floor = record {
    instance = instance;
    asked = asked;
    majority = many;
    answers = λ q k. subst (λ (s : Node). s.mode ≢ Down) (found w.nodes q) (above q k).0;
    above = λ q k. subst (λ (s : Node). reach_of s.entries + MAX_ATTEMPTS ≤ floor) (found w.nodes q) (above q k).1;
  };
  becomes = moves n w p (opened_by Down (Floor floor ∷ []) None) [] node;
}

abbrev pub happened : Caller → Bool → (n : ℕ) (w : WorldBy) (event : Event) → Option (Happened n w event)
happened caller keeps n w (Submit p v) = elim (is_node n p) [ inr outside ↦ None | inl node ↦ caller n w p (submit v) node ]
happened caller keeps n w (Tick p) = elim (is_node n p) [ inr outside ↦ None | inl node ↦ caller n w p tick node ]
happened caller keeps n w (Widen p) = elim (is_node n p) [ inr outside ↦ None | inl node ↦ caller n w p widen node ]
happened caller keeps n w (Ask p) = elim (is_node n p) [ inr outside ↦ None | inl node ↦ caller n w p ask node ]
happened caller keeps n w (Tell p i) = elim (is_node n p) [ inr outside ↦ None | inl node ↦ caller n w p (tell All i) node ]
happened caller keeps n w (Deliver p index) = elim (is_node n p) [ inr outside ↦ None | inl node ↦ delivered caller n w p index node ]
happened caller keeps n w (Arm p calls) = elim (is_node n p) [ inr outside ↦ None | inl node ↦ Some (armed n w p calls node) ]
happened caller keeps n w (Crash p choice) = elim (is_node n p) [
  | inr outside ↦ None
  | inl node ↦ Some (moved w p (opened_by Down (left keeps (find w.nodes p)) None) [], crashes keeps n w p choice node)
]
happened caller keeps n w (Restart p) = elim (is_node n p) [
  | inr outside ↦ None
  | inl node ↦ Some (moved w p (opened_by Up (left keeps (find w.nodes p)) None) [], opens keeps n w p node)
]
happened caller keeps n w (Keep p i) = elim (is_node n p) [ inr outside ↦ None | inl node ↦ caller n w p (keep i) node ]
happened caller keeps n w (Replace p floor) = elim (is_node n p) [
  | inr outside ↦ None
  | inl node ↦ elim (both (no_more 1 floor) (no_more floor MAX_INSTANCE)) [
    | inr outside ↦ None
    | inl instance ↦ elim (majority n (others p n)) [
      | inr few ↦ None
      | inl many ↦ elim (all_above w floor (others p n)) [
        | inr low ↦ None
        | inl above ↦ Some (moved w p (opened_by Down (Floor floor ∷ []) None) [], replaces n w p floor (others p n) node instance many above)
      ]
    ]
  ]
]

abbrev pub stepped : (n : ℕ) (w : WorldBy) (step : Step) → Option (Happened n w (event_of step))
stepped n w (as_is event) = happened called false n w event
stepped n w (failing event) = happened failed false n w event
stepped n w (keeping event) = happened called true n w event

-- ---- runs

abbrev pub Ran : ℕ → WorldBy → List Step → Type 0
Ran n w steps = (after : WorldBy) × TakesAll n (world_by w) (events_of steps) (world_by after)

abbrev pub run : (n : ℕ) (w : WorldBy) (steps : List Step) → Option (Ran n w steps)
run n w [] = Some (w, refl)
run n w (step ∷ steps) = elim (stepped n w step) [
  | None ↦ None
  | Some x ↦ elim (run n x.0 steps) [ None ↦ None | Some y ↦ Some (y.0, (world_by x.0, x.1, y.1)) ]
]

abbrev pub IsThere : {X : Type 0} → Option X → Type 0
IsThere None = ⊥
IsThere (Some x) = Unit {0}

abbrev pub the : {X : Type 0} (o : Option X) → IsThere o → X
the None h = absurd h
the (Some x) h = x
