-- Steps of the simulator.
use Rattle.std.proofs.Common.{◌≡◌, ◌≢◌, ◌⊎◌, append-nil, String, Global, string_bytes, ℕ, zero, suc, ◌<◌, ◌≤◌, ◌+◌, List, [], ◌∷◌, ◌++◌, length, Some, None, refl, sym, ap, ◌∙◌, subst, arith, append_assoc, Option, Result, Ok, Err, inl, inr}
use Rattle.std.specs.Prelude.{IfOk, OnOk, IfErr, IsErrOf, ⊤}
use Rattle.std.specs.List.{flat_map}
use Rattle.std.specs.Io.KnownBytes.{IsAtEnd}
use Rattle.http_read.specs.Bytes.{End}
use Rattle.command.specs.Effective.{effective}
use Rattle.command.specs.Releases.{release_count}
use Rattle.node.specs.Effects.{messages_of}
use Rattle.node.specs.Nodes.{Value, Node, IsKnownPrefix}
use Rattle.world.specs.declared.event.Event.{Event}
use Rattle.world.specs.declared.event.Event.TheVariants.{Deliver}
use Rattle.world.specs.declared.fault.WorldFault.{WorldFault}
use Rattle.world.specs.declared.fault.WorldFault.TheVariants.{BadEvent}
use Rattle.world.specs.Quiet.{IsQuiet, IsShort}
use Rattle.world.specs.Quieting.{AreUp, Learns}
use Rattle.world.specs.Taking.{TakesAll, IsBad, MeetsBadEvent}
use Rattle.world.specs.Telling.{fed_at}
use Rattle.world.specs.Worlds.{World}
use Rattle.site_ids.specs.Ids.{IsNode}
use Rattle.world.specs.declared.world.World.{World as Code}
use Rattle.world.specs.Standing.{IsWorldOf, IsPublishedAt}
use Rattle.world.proofs.Fed.{one_prefix, published_alike, start_published, fed_whole}
use Rattle.world.proofs.Following.{takes_on}
use Rattle.world.specs.Steps.{Reached, RunEnds}
use Rattle.engine_common.specs.declared.ends.InputFault.{InputFault}
use Rattle.engine_common.specs.declared.ends.InputFault.TheVariants as input
use Rattle.engine_schedule.specs.declared.simulator.SimFault.{SimFault}
use Rattle.engine_schedule.specs.declared.simulator.Simulation.{Simulation}
use Rattle.engine_schedule.specs.declared.simulator.SimFault.TheVariants as sim
use Rattle.engine_common.specs.Founds.{HasNoLine, GetsNoLine, IsDecided}
use Rattle.engine_common.proofs.Founds as founds
use Rattle.engine_common.proofs.Texts.{lacks-codes}
use Rattle.engine_schedule.proofs.ScheduleLemmas.{no_line_yet}
use Rattle.engine_schedule.specs.Schedule.{Line, spelled, Fits, submit_line, tick_line, widen_line, ask_line, tell_line, keep_line, restart_line, replace_line, deliver_line, arm_line, crash_line, settle_line, quiet_line, show_line, get_line, trace_line}
use Rattle.engine_schedule.specs.Tracing.{message_line}
use Rattle.engine_schedule.specs.Simulation.{Moment, IsMoment, Takes, to_each, deliveries, event_of, HasRelease, IsPage, IsNoPage, Does, TakesOne, TakesPlan}
use Rattle.engine_schedule.specs.SimulationEnds.{IsStart, HasBadLine}
use Rattle.engine_common.specs.Feeds.{Grown, ReadEnds}
use Rattle.engine_schedule.specs.Stepping.{NextEnds, BeginEnds, HappenEnds, moment_of, sim_fault}

-- a run of one event meets no other
pub met_bad : (n k : ℕ) (w after : World) (event : Event) → MeetsBadEvent n w (event ∷ []) k after → IsBad n w event
met_bad n zero w after event m =
    let same : event ≡ m.event = cc in
    let there : after ≡ w = m.takes in
    subst (λ u. IsBad n u event) there (subst (λ e. IsBad n after e) (sym same) m.bad)
met_bad n (suc k) w after event m = let none = m.next in cc

pub bad_run : (old new : Code) (event : Event) (events : List Event) (fault : WorldFault) (k : ℕ) (w : World) → RunEnds old new events (Err fault) → fault ≡ BadEvent k → events ≡ event ∷ [] → IsWorldOf old w → IsBad old.cluster w event
bad_run old new event events fault k w ends is one stands =
    let led : RunEnds old new (event ∷ []) (Err (BadEvent k)) = subst (λ es. RunEnds old new es (Err (BadEvent k))) one (subst (λ f. RunEnds old new events (Err f)) is ends) in
    let l = led.leads w stands in met_bad old.cluster k w l.after event l.how.0

-- ---- events that are taken

-- so they are by a run that is Ok
pub took : (n : ℕ) (old new : Moment) (events : List Event) → RunEnds old.world new.world events (Ok tt) → new.world.cluster ≡ old.world.cluster → Reached new.world new.events → new.events ≡ old.events ++ events
    → IsMoment n old → Takes n old events new
took n old new events ends same reached are m = record {
  events_are = are;
  leads = record {
    leads = λ w stands. let led = ends.leads w stands in record { after = led.after; how = subst (λ (k : ℕ). TakesAll k w events led.after) m.whose led.how.0; stands = led.stands };
  };
  moment = record {
    whose = same ∙ m.whose;
    reached = reached;
    published = λ w stands p.
        let first = m.reached in
        let led = ends.leads first.world first.stands in
        published_alike new.world led.after w led.stands stands p (led.how.2 p (m.published first.world first.stands p));
  };
}

-- none is taken
pub took_none : (n : ℕ) (m : Moment) → IsMoment n m → Takes n m [] m
took_none n m is = record { events_are = sym (append-nil m.events); leads = record { leads = λ w stands. record { after = w; how = refl; stands = stands } }; moment = is }

-- those, and then these
took_then : (n : ℕ) (old mid new : Moment) (first second : List Event) → Takes n old first mid → Takes n mid second new → Takes n old (first ++ second) new
took_then n old mid new first second a b = record {
  events_are = b.events_are ∙ (ap (λ l. l ++ second) a.events_are ∙ append_assoc old.events first second);
  leads = record {
    leads = λ w stands.
        let x = a.leads.leads w stands in
        let y = b.leads.leads x.after x.stands in
        record { after = y.after; how = takes_on n first second w x.after y.after x.how y.how; stands = y.stands };
  };
  moment = b.moment;
}

-- how far messages were settled is no part of it, and the list of events is known
took_as : (n : ℕ) (old : Moment) (events : List Event) (world : Code) (es : List Event) (s t : ℕ) → Takes n old events (record { world = world; events = es; settled = s })
    → Takes n old events (record { world = world; events = old.events ++ events; settled = t })
took_as n old events world es s t takes =
    let again : Takes n old events (record { world = world; events = es; settled = t }) =
    record { events_are = takes.events_are; leads = takes.leads; moment = record { whose = takes.moment.whose; reached = takes.moment.reached; published = takes.moment.published } } in
    subst (λ l. Takes n old events (record { world = world; events = l; settled = t })) takes.events_are again

-- a world that begins
pub begun : (n : ℕ) (s : Simulation) → s.world.cluster ≡ n → Reached s.world [] → s.settled ≡ 0 → IsStart n (moment_of s [])
begun n s whose reached settled = record {
  moment = record {
    whose = whose;
    reached = reached;
    published = λ w stands p.
        let at_start = subst (λ (u : World). IsWorldOf s.world u) reached.runs reached.stands in
        published_alike s.world _ w at_start stands p (start_published s.world at_start p);
  };
  events = refl;
  settled = settled;
}

-- ---- what a node has published

-- how many values it knows is how many it was fed
pub fed_length : (code : Code) (w : World) (p known : ℕ) → IsNode code.cluster p → IsWorldOf code w → IsPublishedAt code w p → (values : List Value) × IsKnownPrefix (w.node p) values × (known ≡ length values) → known ≡ length (fed_at code p)
fed_length code w p known node stands published told =
    told.2 ∙ ap (λ (vs : List Value). length vs) (one_prefix (w.node p) told.0 (fed_at code p) told.1 (fed_whole code w p node stands published))

pub has_release_of : (s : Node) (fed : List Value) (n : ℕ) → IsKnownPrefix s fed → ¬ ((n ≡ 0) ⊎ (release_count (effective fed) < n)) → HasRelease s n
has_release_of s fed n known some =
    let above : ¬ (n ≡ 0) = λ is. some (inl is) in
    let within : ¬ (release_count (effective fed) < n) = λ less. some (inr less) in
    record { values = fed; known = known; first = omega (arith, above); counted = omega (arith, within) }

pub has_no_release : (s : Node) (fed : List Value) (n : ℕ) → IsKnownPrefix s fed → (n ≡ 0) ⊎ (release_count (effective fed) < n) → ¬ HasRelease s n
has_no_release s fed n known (inl none) has = let first = has.first in omega (arith, none, first)
has_no_release s fed n known (inr less) has =
    let counted : n ≤ release_count (effective fed) = subst (λ (vs : List Value). n ≤ release_count (effective vs)) (one_prefix s has.values fed has.known known) has.counted in
    omega (arith, less, counted)

-- the fault that a call passes on
pub same_fault : {T : Type 0} (r : Result T SimFault) (y e f : SimFault) → r ≡ Err y → y ≡ e → r ≡ Err f → e ≡ f
same_fault r y e f is from other = let same : Err y ≡ Err f = sym is ∙ other in let one : y ≡ f = cc in sym from ∙ one

-- ---- bytes

-- a reading that fails
pub read_fault : (reader : End) (s : Simulation) (old new : List ℕ) (e : InputFault) (r : Result (Option (String Global)) SimFault) → r ≡ Err (sim_fault e) → ReadEnds reader old new (Err e) → NextEnds reader s s old new r
read_fault reader s old new input.Read r is h = rw is h
read_fault reader s old new input.OutOfMemory r is h = rw is h

pub begin_fault : (reader : End) (old new : List ℕ) (e : InputFault) (r : Result Simulation SimFault) → r ≡ Err (sim_fault e) → ReadEnds reader old new (Err e) → BeginEnds reader old new r
begin_fault reader old new input.Read r is h = rw is h
begin_fault reader old new input.OutOfMemory r is h = rw is h

-- with nothing held the input is at its end
pub at_end : (reader : End) (held : List ℕ) → IsDecided Fits spelled held ⊎ IsAtEnd reader.after → held ≡ [] → IsAtEnd reader.after
at_end reader held = founds.at_end Fits spelled held settle_line tt (no_line_yet [] (lacks-codes 10 [] refl))

-- with something held that is no line there is a bad line
pub bad_line : (reader : End) (n : ℕ) (held : List ℕ) → (IsAtEnd reader.after × HasNoLine Fits spelled held) ⊎ GetsNoLine Fits spelled held → held ≢ [] → HasBadLine reader n held
bad_line reader n held (inl (ended, none)) some = inl (ended, none, some)
bad_line reader n held (inr never) some = inr (inl never)

-- a fault of the line that was found
pub line_fault : (reader : End) (before after : Simulation) (old held new : List ℕ) (line : Line) (rest : List ℕ) (e : SimFault) (r : Result (Option (String Global)) SimFault) → r ≡ Err e → Grown reader old held → Fits line
    → held ≡ spelled line ++ rest → HappenEnds before after line (Err e) → NextEnds reader before after old new r
line_fault reader before after old held new line rest sim.BadLine r is grown fits whole asks = rw is (held, grown, inr (inr (line, rest, fits, whole, asks)))
line_fault reader before after old held new line rest sim.BadEvent r is grown fits whole bad = rw is (held, grown, λ n events m. (line, rest, fits, whole, bad n events m))
line_fault reader before after old held new line rest sim.OutOfMemory r is grown fits whole h = rw is (grown.more, grown.taken)
line_fault reader before after old held new line rest sim.Read r is grown fits whole h = absurd h

-- ---- lines

-- the fault of a settle
pub settle_fault : (old new : Simulation) (line : Line) (e : SimFault) (r : Result (String Global) SimFault) → r ≡ Err e → (e ≡ sim.BadEvent) ⊎ (e ≡ sim.OutOfMemory)
    → (e ≡ sim.BadEvent → (n : ℕ) (events : List Event) → ¬ IsMoment n (moment_of old events)) → HappenEnds old new line r
settle_fault old new line sim.BadLine r is (inl k) bad = cc
settle_fault old new line sim.BadLine r is (inr k) bad = cc
settle_fault old new line sim.BadEvent r is k bad = rw is (λ n events m. absurd (bad refl n events m))
settle_fault old new line sim.OutOfMemory r is k bad = rw is tt
settle_fault old new line sim.Read r is (inl k) bad = cc
settle_fault old new line sim.Read r is (inr k) bad = cc

-- the fault of an event
pub take_fault : (old new : Simulation) (line : Line) (event : Event) (e : SimFault) (r : Result (String Global) SimFault) → r ≡ Err e → event_of line ≡ Some event → (e ≡ sim.BadEvent) ⊎ (e ≡ sim.OutOfMemory)
    → (e ≡ sim.BadEvent → (w : World) → IsWorldOf old.world w → IsBad old.world.cluster w event) → HappenEnds old new line r
take_fault old new line event sim.BadLine r is at (inl k) bad = cc
take_fault old new line event sim.BadLine r is at (inr k) bad = cc
take_fault old new line event sim.BadEvent r is at k bad = rw is (λ n events m. record { event = event; is = at; bad = λ w stands. subst (λ c. IsBad c w event) m.whose (bad refl w stands) })
take_fault old new line event sim.OutOfMemory r is at k bad = rw is tt
take_fault old new line event sim.Read r is at (inl k) bad = cc
take_fault old new line event sim.Read r is at (inr k) bad = cc

-- a page that is asked for
pub asked_page : (s : Simulation) (p r : ℕ) (path : List ℕ) (result : Result (String Global) SimFault)
    → IfOk result (λ text. IsNode s.world.cluster p × ((n : ℕ) (events : List Event) → IsMoment n (moment_of s events) → IsPage (moment_of s events) p r path (string_bytes text) ⊎ IsNoPage (moment_of s events) p r path (string_bytes text)))
    → (IsErrOf result sim.BadLine → ¬ IsNode s.world.cluster p) → IfErr result (λ e. (e ≡ sim.BadLine) ⊎ (e ≡ sim.OutOfMemory)) → HappenEnds s s (get_line p r path) result
asked_page s p r path (Ok text) ok bad faults = λ n events m. (events, m, (subst (λ (k : ℕ). IsNode k p) m.whose ok.0, ok.1 n events m, refl))
asked_page s p r path (Err sim.BadLine) ok bad faults = bad refl
asked_page s p r path (Err sim.BadEvent) ok bad (inl k) = cc
asked_page s p r path (Err sim.BadEvent) ok bad (inr k) = cc
asked_page s p r path (Err sim.OutOfMemory) ok bad faults = tt
asked_page s p r path (Err sim.Read) ok bad (inl k) = cc
asked_page s p r path (Err sim.Read) ok bad (inr k) = cc

no_event : (event : Event) → ◌≡◌ {A = Option Event} None (Some event) → ⊥
no_event event is = cc

does_one : (n : ℕ) (old new : Moment) (line : Line) (event : Event) (printed : List ℕ) → event_of line ≡ Some event → TakesOne n old line printed new → Does n old line printed new
does_one n old new (submit_line p ticket text) event printed is t = t
does_one n old new (tick_line p) event printed is t = t
does_one n old new (widen_line p) event printed is t = t
does_one n old new (ask_line p) event printed is t = t
does_one n old new (tell_line p first) event printed is t = t
does_one n old new (keep_line p i) event printed is t = t
does_one n old new (restart_line p) event printed is t = t
does_one n old new (replace_line p floor) event printed is t = t
does_one n old new (deliver_line p index) event printed is t = t
does_one n old new (arm_line p calls) event printed is t = t
does_one n old new (crash_line p choice) event printed is t = t
does_one n old new settle_line event printed is t = absurd (no_event event is)
does_one n old new (quiet_line p) event printed is t = absurd (no_event event is)
does_one n old new (show_line p) event printed is t = absurd (no_event event is)
does_one n old new (get_line p r path) event printed is t = absurd (no_event event is)
does_one n old new trace_line event printed is t = absurd (no_event event is)

pub happened_one : (old new : Simulation) (line : Line) (event : Event) (text : String Global) → event_of line ≡ Some event → string_bytes text ≡ [] → new.settled ≡ old.settled
    → ((n : ℕ) (events : List Event) → IsMoment n (moment_of old events) → Takes n (moment_of old events) (event ∷ []) (moment_of new (events ++ event ∷ []))) → HappenEnds old new line (Ok text)
happened_one old new line event text is none same ok = λ n events m.
    let takes = ok n events m in
    (events ++ event ∷ [], takes.moment, does_one n _ _ line event _ is (record { event = event; is = is; takes = takes; settled = same; silent = none }))

pub happened_settle : (old new : Simulation) (text : String Global) → string_bytes text ≡ [] → length (messages_of new.world.sent.items) ≤ new.settled
    → ((n : ℕ) (events : List Event) → IsMoment n (moment_of old events)
    → (count : ℕ) × (new.settled ≡ old.settled + count) × Takes n (moment_of old events) (deliveries n old.settled count) (moment_of new (events ++ deliveries n old.settled count)))
    → HappenEnds old new settle_line (Ok text)
happened_settle old new text none all ok = λ n events m.
    let s = ok n events m in
    (events ++ deliveries n old.settled s.0, s.2.moment, (record { count = s.0; takes = s.2; settled = s.1; none_left = all }, none))

-- the messages that are told
pub happened_trace : (s : Simulation) (text : String Global) → string_bytes text ≡ flat_map message_line (messages_of s.world.sent.items) → HappenEnds s s trace_line (Ok text)
happened_trace s text is = λ n events m. (events, m, ((λ w stands. is ∙ ap (flat_map message_line) (sym stands.sent)), refl))

-- ---- a quiet line

abbrev Learning : ℕ → Code → Code → List Event → ℕ → Type 0
Learning n old new past p = (reached : Reached old past) → IsQuiet n reached.world p → AreUp n new → (u : World) → IsWorldOf new u → Learns n reached.world p u

-- a plan of a quiet state that was taken, or an empty one
pub planned : (n : ℕ) (old new : Simulation) (events plan : List Event) (p : ℕ) → IsMoment n (moment_of old events) → IsShort old.world.cluster plan
    → ((w : World) → IsWorldOf old.world w → ¬ IsQuiet old.world.cluster w p → plan ≡ []) → RunEnds old.world new.world plan (Ok tt) → new.world.cluster ≡ old.world.cluster → Reached new.world (events ++ plan) → new.settled ≡ old.settled
    → Learning old.world.cluster old.world new.world events p → TakesPlan n (moment_of old events) p (moment_of new (events ++ plan))
planned n old new events plan p m short none ends whose reached settled learns = record {
  plan = plan;
  short = subst (λ k. IsShort k plan) m.whose short;
  none = λ w stands un. none w stands (λ quiet. un (subst (λ k. IsQuiet k w p) m.whose quiet));
  takes = took n (moment_of old events) (moment_of new (events ++ plan)) plan ends whose reached refl m;
  learns = subst (λ k. Learning k old.world new.world events p) m.whose learns;
  settled = settled;
}

pub happened_plan : (old new : Simulation) (p : ℕ) (text : String Global) → string_bytes text ≡ [] → IsNode old.world.cluster p
    → ((n : ℕ) (events : List Event) → IsMoment n (moment_of old events) → (later : List Event) × TakesPlan n (moment_of old events) p (moment_of new later)) → HappenEnds old new (quiet_line p) (Ok text)
happened_plan old new p text none node ok = λ n events m. let t = ok n events m in (t.0, t.1.takes.moment, (subst (λ (k : ℕ). IsNode k p) m.whose node, t.1, none))

-- the fault of one
pub plan_fault : (old new : Simulation) (p : ℕ) (e : SimFault) (r : Result (String Global) SimFault) → r ≡ Err e → (e ≡ sim.BadLine) ⊎ (e ≡ sim.OutOfMemory) → (e ≡ sim.BadLine → ¬ IsNode old.world.cluster p) → HappenEnds old new (quiet_line p) r
plan_fault old new p sim.BadLine r is k bad = rw is (bad refl)
plan_fault old new p sim.BadEvent r is (inl k) bad = cc
plan_fault old new p sim.BadEvent r is (inr k) bad = cc
plan_fault old new p sim.OutOfMemory r is k bad = rw is tt
plan_fault old new p sim.Read r is (inl k) bad = cc
plan_fault old new p sim.Read r is (inr k) bad = cc

-- ---- lines that show nothing

pub settle_ends : (old new : Simulation) (d : Result ⊤ SimFault) (r : Result (String Global) SimFault) → IfOk r (λ text. (string_bytes text ≡ []) × (d ≡ Ok tt)) → IfErr r (λ e. d ≡ Err e)
    → OnOk d (length (messages_of new.world.sent.items) ≤ new.settled)
    → OnOk d ((n : ℕ) (events : List Event) → IsMoment n (moment_of old events)
    → (count : ℕ) × (new.settled ≡ old.settled + count) × Takes n (moment_of old events) (deliveries n old.settled count) (moment_of new (events ++ deliveries n old.settled count)))
    → IfErr d (λ e. (e ≡ sim.BadEvent) ⊎ (e ≡ sim.OutOfMemory)) → (IsErrOf d sim.BadEvent → (n : ℕ) (events : List Event) → ¬ IsMoment n (moment_of old events)) → HappenEnds old new settle_line r
settle_ends old new d (Ok text) said told all ok faults bad = happened_settle old new text said.0 (rw said.1 at all) (rw said.1 at ok)
settle_ends old new d (Err e) said told all ok faults bad = settle_fault old new settle_line e (Err e) refl (rw told at faults) (λ is. bad (told ∙ ap Err is))

pub quiet_ends : (old new : Simulation) (p : ℕ) (d : Result ⊤ SimFault) (r : Result (String Global) SimFault) → IfOk r (λ text. (string_bytes text ≡ []) × (d ≡ Ok tt)) → IfErr r (λ e. d ≡ Err e)
    → OnOk d (IsNode old.world.cluster p × ((n : ℕ) (events : List Event) → IsMoment n (moment_of old events) → (later : List Event) × TakesPlan n (moment_of old events) p (moment_of new later)))
    → IfErr d (λ e. (e ≡ sim.BadLine) ⊎ (e ≡ sim.OutOfMemory)) → (IsErrOf d sim.BadLine → ¬ IsNode old.world.cluster p) → HappenEnds old new (quiet_line p) r
quiet_ends old new p d (Ok text) said told ok faults bad = let does = rw said.1 at ok in happened_plan old new p text said.0 does.0 does.1
quiet_ends old new p d (Err e) said told ok faults bad = plan_fault old new p e (Err e) refl (rw told at faults) (λ is. bad (told ∙ ap Err is))

pub event_ends : (old new : Simulation) (line : Line) (event : Event) (d : Result ⊤ SimFault) (r : Result (String Global) SimFault) → event_of line ≡ Some event → IfOk r (λ text. (string_bytes text ≡ []) × (d ≡ Ok tt)) → IfErr r (λ e. d ≡ Err e)
    → new.settled ≡ old.settled → OnOk d ((n : ℕ) (events : List Event) → IsMoment n (moment_of old events) → Takes n (moment_of old events) (event ∷ []) (moment_of new (events ++ event ∷ [])))
    → IfErr d (λ e. (e ≡ sim.BadEvent) ⊎ (e ≡ sim.OutOfMemory)) → (IsErrOf d sim.BadEvent → (w : World) → IsWorldOf old.world w → IsBad old.world.cluster w event) → HappenEnds old new line r
event_ends old new line event d (Ok text) has said told same ok faults bad = happened_one old new line event text has said.0 same (rw said.1 at ok)
event_ends old new line event d (Err e) has said told same ok faults bad = take_fault old new line event e (Err e) refl has (rw told at faults) (λ is. bad (told ∙ ap Err is))

-- ---- messages to all nodes

-- before the first
pub told_to_none : (n index : ℕ) (s : Simulation) (events : List Event) → IsMoment n (moment_of s events) → Takes n (moment_of s events) (to_each 0 index) (moment_of s (events ++ to_each 0 index))
told_to_none n index s events m = took_as n (moment_of s events) [] s.world events s.settled s.settled (took_none n (moment_of s events) m)

pub one_more_told : (n p node index : ℕ) (old mid new : Simulation) (events : List Event) → node ≡ suc p → Takes n (moment_of old events) (to_each p index) (moment_of mid (events ++ to_each p index))
    → Takes n (moment_of mid (events ++ to_each p index)) (Deliver node index ∷ []) (moment_of new ((events ++ to_each p index) ++ Deliver node index ∷ []))
    → Takes n (moment_of old events) (to_each (suc p) index) (moment_of new (events ++ to_each (suc p) index))
one_more_told n p node index old mid new events is told one =
    let both = took_then n (moment_of old events) (moment_of mid (events ++ to_each p index)) _ (to_each p index) (Deliver node index ∷ []) told one in
    subst (λ q. Takes n (moment_of old events) (to_each p index ++ Deliver q index ∷ []) (moment_of new (events ++ (to_each p index ++ Deliver q index ∷ [])))) is
    (took_as n (moment_of old events) (to_each p index ++ Deliver node index ∷ []) new.world _ new.settled new.settled both)

pub settled_none : (n from : ℕ) (s : Simulation) (events : List Event) → IsMoment n (moment_of s events) → Takes n (moment_of s events) (deliveries n from 0) (moment_of s (events ++ deliveries n from 0))
settled_none n from s events m = took_as n (moment_of s events) [] s.world events s.settled s.settled (took_none n (moment_of s events) m)

pub settled_more : (n from count index : ℕ) (old mid : Simulation) (world : Code) (s t : ℕ) (events : List Event) → index ≡ from + count
    → Takes n (moment_of old events) (deliveries n from count) (moment_of mid (events ++ deliveries n from count))
    → Takes n (moment_of mid (events ++ deliveries n from count)) (to_each n index) (record { world = world; events = (events ++ deliveries n from count) ++ to_each n index; settled = s })
    → Takes n (moment_of old events) (deliveries n from (suc count)) (record { world = world; events = events ++ deliveries n from (suc count); settled = t })
settled_more n from count index old mid world s t events is settled told =
    let both = took_then n (moment_of old events) (moment_of mid (events ++ deliveries n from count)) _ (deliveries n from count) (to_each n index) settled told in
    subst (λ i. Takes n (moment_of old events) (deliveries n from count ++ to_each n i) (record { world = world; events = events ++ (deliveries n from count ++ to_each n i); settled = t })) is
    (took_as n (moment_of old events) (deliveries n from count ++ to_each n index) world _ s t both)

-- a message that was handed out, to a node of the cluster, is no bad event
pub not_bad : (n node index : ℕ) (world : Code) (w : World) → IsNode n node → index < length (messages_of world.sent.items) → IsWorldOf world w → ¬ IsBad n w (Deliver node index)
not_bad n node index world w ok there stands (inl none) = none ok
not_bad n node index world w ok there stands (inr (inl unsent)) = let same : length w.sent ≡ length (messages_of world.sent.items) = ap length stands.sent in omega (arith, same, unsent, there)
not_bad n node index world w ok there stands (inr (inr none)) = absurd none
