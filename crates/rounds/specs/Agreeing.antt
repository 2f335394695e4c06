-- Rounds are schedules, so what holds of every schedule holds of rounds.
use Rattle.std.specs.Prelude.{◌≡◌, ◌⊎◌, ℕ, Some, List, [], ⊤}
use Rattle.site_ids.specs.Ids.{IsNode}
use Rattle.site_ids.specs.Lists.{In}
use Rattle.wire.specs.declared.message.Message.{Message}
use Rattle.wire.specs.Decoding.{Spells}
use Rattle.wire.specs.Messages.{IsMessage}
use Rattle.release.specs.Page.{answer}
use Rattle.node.specs.Nodes.{Value}
use Rattle.server_times.specs.declared.times.Times.{Times}
use Rattle.world.specs.declared.event.Event.{Event}
use Rattle.world.specs.declared.event.Event.TheVariants.{Tick, Widen, Ask, Tell, Deliver, Keep}
use Rattle.world.specs.Decided.{Publishes, IsSubmitted}
use Rattle.world.specs.Worlds.{World, Runs, start}
use Rattle.rounds.specs.Rounds.{Group, AreRounds}
use Rattle.rounds.specs.Deciding.{begun_group}

-- The nodes of the servers are those of the world. What waits for a server is a message that was sent there
pub record IsGroupOf (n : ℕ) (w : World) (g : Group) : Type 0 where
  pub nodes : (q : ℕ) → IsNode n q → (g q).node ≡ w.node q
  pub sent : (q : ℕ) (bytes : List ℕ) (m : Message) → IsNode n q → In (g q).waits bytes → Spells n bytes m
      → In w.sent m

-- a schedule led to the group: its events lead from the start to such a world
pub record IsLedTo (n : ℕ) (events : List Event) (g : Group) : Type 0 where
  pub world : World
  pub runs : Runs n start events world
  pub stands : IsGroupOf n world g

-- nothing is submitted, and no server crashes, is opened or is replaced
abbrev pub IsOfRounds : Event → Type 0
IsOfRounds (Tick p) = ⊤
IsOfRounds (Widen p) = ⊤
IsOfRounds (Ask p) = ⊤
IsOfRounds (Tell p i) = ⊤
IsOfRounds (Deliver p index) = ⊤
IsOfRounds (Keep p i) = ⊤
IsOfRounds _ = ⊥

-- such events lead from the world to that of the group
pub record GoesOn (n : ℕ) (w : World) (h : Group) : Type 0 where
  pub more : List Event
  pub plain : (event : Event) → In more event → IsOfRounds event
  pub after : World
  pub runs : Runs n w more after
  pub stands : IsGroupOf n after h

abbrev pub RoundsAreRuns : Type 0
RoundsAreRuns = (n d k : ℕ) (g h : Group) (events : List Event) (w : World) → Runs n start events w
    → IsGroupOf n w g → AreRounds n d k g h → GoesOn n w h

-- what a schedule hands out are messages of its nodes, so each is read as it was spelled
abbrev pub SchedulesSayMessages : Type 0
SchedulesSayMessages = (n : ℕ) (events : List Event) (w : World) → Runs n start events w → (m : Message)
    → In w.sent m → IsMessage n m

-- A group that a schedule led to takes some rounds, and then more. If two servers know an instance, one after
-- the first rounds and the other after all, they know one value there
abbrev pub RoundsKnowSame : Type 0
RoundsKnowSame = (n d e k j : ℕ) (events : List Event) (f g h : Group) → IsLedTo n events f
    → AreRounds n d k f g → AreRounds n e j g h → (p q i : ℕ) (v x : Value) → IsNode n p → IsNode n q
    → (g p).node.known i ≡ Some v → (h q).node.known i ≡ Some x → v ≡ x

-- and if two servers published a release, they answer each path alike
abbrev pub RoundsAnswerAlike : Type 0
RoundsAnswerAlike = (n d e k j : ℕ) (events : List Event) (f g h : Group) → IsLedTo n events f
    → AreRounds n d k f g → AreRounds n e j g h → (p q r : ℕ) (xs ys : List Value) → IsNode n p → IsNode n q
    → Publishes (g p).node xs r → Publishes (h q).node ys r → (path : List ℕ) → answer xs r path
    ≡ answer ys r path

-- a value that a server knows after rounds is the no-op, or was submitted before them
abbrev pub RoundsKnowSubmitted : Type 0
RoundsKnowSubmitted = (n d k : ℕ) (events : List Event) (g h : Group) → IsLedTo n events g
    → AreRounds n d k g h
    → (p i : ℕ) (v : Value) → IsNode n p → (h p).node.known i ≡ Some v → (v ≡ []) ⊎ IsSubmitted events v

-- a schedule without events leads to a group that begins over empty records, with nothing pending
abbrev pub StartIsLedTo : Type 0
StartIsLedTo = (n p : ℕ) (times : ℕ → Times) → IsLedTo n [] (begun_group times n p [])
