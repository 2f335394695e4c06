-- What a schedule's lines do to a world, and what they print.
use Rattle.std.specs.Prelude.{ℕ, zero, suc, ◌≡◌, ◌≢◌, ◌⊎◌, ◌≤◌, ◌+◌, List, [], ◌∷◌, ◌++◌, length, codes}
use Rattle.std.specs.Prelude.{decimal, Option, Some, None}
use Rattle.std.specs.List.{flat_map}
use Rattle.command.specs.Effective.{effective}
use Rattle.command.specs.Releases.{release_count}
use Rattle.command.specs.Written.{value_of}
use Rattle.node.specs.Effects.{messages_of}
use Rattle.node.specs.Nodes.{Value, Down, Node, IsKnownPrefix}
use Rattle.release.specs.Page.{Page}
use Rattle.site_ids.specs.Ids.{IsNode}
use Rattle.world.specs.declared.event.Event.{Event}
use Rattle.world.specs.declared.event.Event.TheVariants.{Submit, Tick, Widen, Ask, Tell, Deliver, Arm, Crash}
use Rattle.world.specs.declared.event.Event.TheVariants.{Restart, Replace, Keep}
use Rattle.world.specs.declared.node_state.NodeState.{NodeState}
use Rattle.world.specs.declared.node_state.NodeState.TheVariants as told
use Rattle.world.specs.declared.world.World.{World as Code}
use Rattle.world.specs.Quiet.{IsQuiet, IsShort}
use Rattle.world.specs.Quieting.{AreUp, Learns}
use Rattle.world.specs.Standing.{IsWorldOf, IsPublishedAt}
use Rattle.world.specs.Steps.{LeadsTo, Reached, IsAnswer}
use Rattle.world.specs.Taking.{TakesAll, IsBad}
use Rattle.world.specs.Telling.{mode_told}
use Rattle.world.specs.Worlds.{World}
use Rattle.engine_schedule.specs.Schedule.{Line, submit_line, tick_line, widen_line, ask_line, tell_line}
use Rattle.engine_schedule.specs.Schedule.{keep_line, restart_line, replace_line, deliver_line, arm_line}
use Rattle.engine_schedule.specs.Schedule.{crash_line, settle_line, quiet_line, show_line, get_line}
use Rattle.engine_schedule.specs.Schedule.{trace_line}
use Rattle.engine_schedule.specs.Tracing.{message_line}
use Rattle.engine_common.specs.Answers.{answer_lines}

-- a running world, the events that it has taken since the start, and the least index that no settle has taken
pub record Moment : Type 0 where
  pub world : Code
  pub events : List Event
  pub settled : ℕ

-- the events are a schedule of the n nodes, and lead to the world. Each node has published all that it knows
-- without a gap
pub record IsMoment (n : ℕ) (m : Moment) : Type 0 where
  pub whose : m.world.cluster ≡ n
  pub reached : Reached m.world m.events
  pub published : (w : World) → IsWorldOf m.world w → (p : ℕ) → IsPublishedAt m.world w p

-- ---- events

-- the one event of a line
abbrev pub event_of : Line → Option Event
event_of (submit_line p ticket text) = Some (Submit p (value_of ticket text))
event_of (tick_line p) = Some (Tick p)
event_of (widen_line p) = Some (Widen p)
event_of (ask_line p) = Some (Ask p)
event_of (tell_line p first) = Some (Tell p first)
event_of (keep_line p i) = Some (Keep p i)
event_of (restart_line p) = Some (Restart p)
event_of (replace_line p floor) = Some (Replace p floor)
event_of (deliver_line p index) = Some (Deliver p index)
event_of (arm_line p calls) = Some (Arm p calls)
event_of (crash_line p choice) = Some (Crash p choice)
event_of _ = None

-- the message at an index to nodes 1 to n in order
abbrev pub to_each : ℕ → ℕ → List Event
to_each zero index = []
to_each (suc p) index = to_each p index ++ Deliver (suc p) index ∷ []

-- k messages from an index on, each to nodes 1 to n
abbrev pub deliveries : ℕ → ℕ → ℕ → List Event
deliveries n from zero = []
deliveries n from (suc k) = deliveries n from k ++ to_each n (from + k)

-- the world takes these events, one after another, after the earlier ones: from each world that the old value
-- stands for to one that the new value stands for
pub record Takes (n : ℕ) (old : Moment) (events : List Event) (new : Moment) : Type 0 where
  pub events_are : new.events ≡ old.events ++ events
  pub leads : LeadsTo old.world new.world (λ w after. TakesAll n w events after)
  pub moment : IsMoment n new

-- each message is delivered, from the least index that no settle has taken, until none is left
pub record Settles (n : ℕ) (old new : Moment) : Type 0 where
  pub count : ℕ
  pub takes : Takes n old (deliveries n old.settled count) new
  pub settled : new.settled ≡ old.settled + count
  pub none_left : length (messages_of new.world.sent.items) ≤ new.settled

-- Two ticks and 8 n deliveries at most, after which node p knows what was its first unknown instance, unless
-- a device failed meanwhile. If the state is not quiet there are no events
pub record TakesPlan (n : ℕ) (old : Moment) (p : ℕ) (new : Moment) : Type 0 where
  pub plan : List Event
  pub short : IsShort n plan
  pub none : (w : World) → IsWorldOf old.world w → ¬ IsQuiet n w p → plan ≡ []
  pub takes : Takes n old plan new
  pub learns : (reached : Reached old.world old.events) → IsQuiet n reached.world p → AreUp n new.world
      → (u : World) → IsWorldOf new.world u → Learns n reached.world p u
  pub settled : new.settled ≡ old.settled

-- ---- what is printed

abbrev pub state_word : NodeState → List ℕ
state_word told.Up = codes "up"
state_word told.Stopped = codes "stopped"
state_word told.Down = codes "down"

-- the line of `show`: what the node does, how many values it knows without a gap, and how many releases they
-- have
pub record IsShown (m : Moment) (p : ℕ) (printed : List ℕ) : Type 0 where
  pub state : NodeState
  pub values : List Value
  pub state_is : (w : World) → IsWorldOf m.world w → (w.node p).mode ≡ mode_told state
  pub known : (w : World) → IsWorldOf m.world w → IsKnownPrefix (w.node p) values
  pub printed_is : printed ≡ codes "node "
      ++ (decimal p ++ (codes ": "
      ++ (state_word state
      ++ (codes " known " ++ (decimal (length values)
      ++ (codes " newest " ++ (decimal (release_count (effective values)) ++ codes "\n")))))))

-- what the lines of `get` begin with
abbrev pub got : ℕ → ℕ → List ℕ → List ℕ → List ℕ
got p n path rest =
    codes "node " ++ (decimal p
    ++ (codes " release " ++ (decimal n ++ (codes " " ++ (path ++ (codes ": " ++ rest))))))

abbrev pub page_lines : Page → List ℕ
page_lines page = answer_lines page.status page.body

-- what the node knows without a gap has release n
pub record HasRelease (s : Node) (n : ℕ) : Type 0 where
  pub values : List Value
  pub known : IsKnownPrefix s values
  pub first : 1 ≤ n
  pub counted : n ≤ release_count (effective values)

-- the node isn't down and has release n. The page is that of this release, by the values that are decided
pub record IsPage (m : Moment) (p n : ℕ) (path printed : List ℕ) : Type 0 where
  pub page : Page
  pub up : (w : World) → IsWorldOf m.world w → (w.node p).mode ≢ Down
  pub has : (w : World) → IsWorldOf m.world w → HasRelease (w.node p) n
  pub answers : IsAnswer m.world m.events n path page
  pub printed_is : printed ≡ got p n path (page_lines page)

-- the node is down, or has no such release
pub record IsNoPage (m : Moment) (p n : ℕ) (path printed : List ℕ) : Type 0 where
  pub none : (w : World) → IsWorldOf m.world w → ((w.node p).mode ≡ Down) ⊎ ¬ HasRelease (w.node p) n
  pub printed_is : printed ≡ got p n path (codes "none\n")

-- a line for each message that any node has handed out since the start, the oldest first
abbrev pub IsTraced : Moment → List ℕ → Type 0
IsTraced m printed = (w : World) → IsWorldOf m.world w → printed ≡ flat_map message_line w.sent

-- ---- lines

-- the event of a line is taken, and nothing is printed
pub record TakesOne (n : ℕ) (old : Moment) (line : Line) (printed : List ℕ) (new : Moment) : Type 0 where
  pub event : Event
  pub is : event_of line ≡ Some event
  pub takes : Takes n old (event ∷ []) new
  pub settled : new.settled ≡ old.settled
  pub silent : printed ≡ []

-- what is printed, and the moment after the line
abbrev pub Does : ℕ → Moment → Line → List ℕ → Moment → Type 0
Does n old settle_line printed new = Settles n old new × (printed ≡ [])
Does n old (quiet_line p) printed new = IsNode n p × TakesPlan n old p new × (printed ≡ [])
Does n old (show_line p) printed new = IsNode n p × IsShown old p printed × (new ≡ old)
Does n old (get_line p r path) printed new =
    IsNode n p × (IsPage old p r path printed ⊎ IsNoPage old p r path printed) × (new ≡ old)
Does n old trace_line printed new = IsTraced old printed × (new ≡ old)
Does n old line printed new = TakesOne n old line printed new

-- a line `quiet`, `show` or `get` that names a node which does not exist
abbrev pub AsksNone : ℕ → Line → Type 0
AsksNone n (quiet_line p) = ¬ IsNode n p
AsksNone n (show_line p) = ¬ IsNode n p
AsksNone n (get_line p r path) = ¬ IsNode n p
AsksNone n _ = ⊥

-- an event that cannot be taken: at a node that does not exist, of a message that was never handed out, or
-- with a floor that is not allowed
pub record IsBadEvent (n : ℕ) (m : Moment) (line : Line) : Type 0 where
  pub event : Event
  pub is : event_of line ≡ Some event
  pub bad : (w : World) → IsWorldOf m.world w → IsBad n w event

-- the lines one after another, and all that they print
abbrev pub DoesAll : ℕ → Moment → List Line → List ℕ → Moment → Type 0
DoesAll n old [] printed new = (printed ≡ []) × (new ≡ old)
DoesAll n old (line ∷ lines) printed new =
    (next : Moment) × (first : List ℕ) × (later : List ℕ) × Does n old line first next
    × (printed ≡ first ++ later) × DoesAll n next lines later new
