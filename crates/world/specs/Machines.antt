-- What a call does to one node's machine.
use Rattle.std.specs.Prelude.{◌≡◌, ◌≢◌, ◌⊎◌, ℕ, List, Some, None, true, [], ◌∷◌, ◌++◌, slice_get, ⊤}
use Rattle.site_ids.specs.Lists.{In}
use Rattle.wire.specs.declared.message.Message.{Message}
use Rattle.wire.specs.Messages.{IsMessage}
use Rattle.durable.specs.Entries.{Entry, Floor}
use Rattle.durable.specs.Keeping.{Settles}
use Rattle.node.specs.declared.to.To.{To}
use Rattle.node.specs.declared.to.To.TheVariants.{All}
use Rattle.node.specs.Nodes.{Mode, Up, Down, Node, opened}
use Rattle.node.specs.Effects.{messages_of}
use Rattle.node.specs.Calls.{Call, submit, tick, widen, ask, tell, deliver, keep}
use Rattle.node.specs.declared.fault.NodeFault.TheVariants.{OutOfMemory}
use Rattle.node.specs.Endings.{Ending, Refuses, Ends}
use Rattle.world.specs.declared.event.Event.{Event}
use Rattle.world.specs.declared.event.Event.TheVariants.{Submit, Tick, Widen, Ask, Tell, Deliver, Arm, Crash}
use Rattle.world.specs.declared.event.Event.TheVariants.{Restart, Replace, Keep}
use Rattle.world.specs.declared.machine.Machine.{Machine}
use Rattle.world.specs.Taking.{IsTaken, node_of}
use Rattle.world.specs.Standing.{IsMachineOf, HasPublished}

-- what is handed out, and to whom
abbrev pub Handed : Type 0
Handed = List (To × Message)

-- the call at node p of n is taken, or the node is down and nothing happens
abbrev pub AtNode : ℕ → ℕ → Node → Call → Handed → Node → Type 0
AtNode n p s call out next =
    ((ending : Ending) × IsTaken ending × Ends n p s call ending out next)
    ⊎ ((s.mode ≡ Down) × (out ≡ []) × (next ≡ s))

-- node p of n, in this mode over its record, which has the entry in flight or not
abbrev pub Settled : Mode → Node → Handed → Node → Type 0
Settled mode s out next = (entries : List Entry) × Settles s.entries s.in_flight entries × (out ≡ [])
    × (next ≡ opened mode entries None)

-- what the event does at its node, p of n. Whether a floor is allowed depends on the world
abbrev pub NodeTakes : ℕ → ℕ → List Message → Node → Event → Handed → Node → Type 0
NodeTakes n p sent s (Submit q v) out next = AtNode n p s (submit v) out next
NodeTakes n p sent s (Tick q) out next = AtNode n p s tick out next
NodeTakes n p sent s (Widen q) out next = AtNode n p s widen out next
NodeTakes n p sent s (Ask q) out next = AtNode n p s ask out next
NodeTakes n p sent s (Tell q i) out next = AtNode n p s (tell All i) out next
NodeTakes n p sent s (Deliver q index) out next = (message : Message) × (slice_get sent index ≡ Some message)
    × AtNode n p s (deliver message) out next
NodeTakes n p sent s (Arm q calls) out next = (out ≡ [])
    × (((s.mode ≢ Down) × (next ≡ record s { armed = true })) ⊎ ((s.mode ≡ Down) × (next ≡ s)))
NodeTakes n p sent s (Crash q choice) out next = Settled Down s out next
NodeTakes n p sent s (Restart q) out next = Settled Up s out next
NodeTakes n p sent s (Replace q floor) out next = (out ≡ []) × (next ≡ opened Down (Floor floor ∷ []) None)
NodeTakes n p sent s (Keep q i) out next = AtNode n p s (keep i) out next

-- the machine stands for the node afterwards, and what is handed out is added at the end of the list
pub record Turned (n p : ℕ) (Does : Node → Handed → Node → Type 0) (new : Machine) (before after : Handed)
    (s : Node) : Type 0 where
  pub next : Node
  pub out : Handed
  pub does : Does s out next
  pub stands : IsMachineOf n p new next
  pub outbox : after ≡ before ++ out
  pub messages : (m : Message) → In (messages_of out) m → IsMessage n m

-- and it does so from each node that the machine stands for
pub record Turns (n p : ℕ) (Does : Node → Handed → Node → Type 0) (old new : Machine)
    (before after : Handed) : Type 0 where
  pub leads : (s : Node) → IsMachineOf n p old s → Turned n p Does new before after s

-- an allocation failed, at a node where it may fail, and nothing happens. What was published stays published
pub record Wants (n p : ℕ) (May : Node → Type 0) (old new : Machine) (before after : Handed) : Type 0 where
  pub leads : (s : Node) → IsMachineOf n p old s → May s × IsMachineOf n p new s × (after ≡ before)
      × (HasPublished old s → HasPublished new s)

-- the opening is refused: the node is down, with its disk as it was
pub record RefusesOpening (n p : ℕ) (old new : Machine) : Type 0 where
  pub leads : (s : Node) → IsMachineOf n p old s → IsMachineOf n p new (opened Down s.entries s.in_flight)

-- the call at node p of n
abbrev pub CallTurns : ℕ → ℕ → Call → Machine → Machine → Handed → Handed → Type 0
CallTurns n p call old new before after =
    Turns n p (λ s out next. AtNode n p s call out next) old new before after

-- the call is not taken, and a failed allocation is a cause to refuse it
abbrev pub CallWants : ℕ → ℕ → Call → Machine → Machine → Handed → Handed → Type 0
CallWants n p call old new before after = Wants n p (λ s. Refuses s call OutOfMemory) old new before after

-- the node runs
abbrev pub IsUp : Node → Type 0
IsUp s = s.mode ≡ Up

-- the event is not taken, because an allocation failed
abbrev pub EventWants : ℕ → ℕ → Event → Machine → Machine → Handed → Handed → Type 0
EventWants n p (Restart q) old new before after = RefusesOpening n p old new × (after ≡ before)
EventWants n p (Arm q calls) old new before after = ⊥
EventWants n p (Crash q choice) old new before after = ⊥
EventWants n p (Replace q floor) old new before after = Wants n p (λ s. ⊤) old new before after
EventWants n p (Submit q v) old new before after = CallWants n p (submit v) old new before after
EventWants n p (Tick q) old new before after = CallWants n p tick old new before after
EventWants n p (Widen q) old new before after = CallWants n p widen old new before after
EventWants n p (Ask q) old new before after = CallWants n p ask old new before after
EventWants n p (Tell q i) old new before after = CallWants n p (tell All i) old new before after
EventWants n p (Keep q i) old new before after = CallWants n p (keep i) old new before after
EventWants n p (Deliver q index) old new before after = Wants n p IsUp old new before after

-- all of them are messages of the cluster's nodes
abbrev pub AreMessages : ℕ → Handed → Type 0
AreMessages n sent = (m : Message) → In (messages_of sent) m → IsMessage n m

-- the event is taken at its node, except for the publication after it
abbrev pub EventTurns : ℕ → Event → Machine → Machine → Handed → Handed → Type 0
EventTurns n event old new before after = AreMessages n before
    → Turns n (node_of event)
    (λ s out next. NodeTakes n (node_of event) (messages_of before) s event out next) old new before after
