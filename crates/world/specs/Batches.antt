-- A batch of calls at one node, from which no other node hears before it is sealed: which run the batch is,
-- at whatever moment it is cut short.
use Rattle.std.specs.Prelude.{◌≡◌, ◌≢◌, ◌⊎◌, ℕ, Some, None, List, [], ◌∷◌, ◌++◌, slice_get, ⊤}
use Rattle.site_ids.specs.Ids.{IsNode}
use Rattle.site_ids.specs.Lists.{In}
use Rattle.site_disk.specs.Model.{DiskState, MayLeave, LeavesOnly, moment}
use Rattle.wire.specs.declared.message.Message.{Message}
use Rattle.wire.specs.declared.message.Message.TheVariants as say
use Rattle.wire.specs.Messages.{sender_of}
use Rattle.durable.specs.Entries.{Entry, Round, Promised}
use Rattle.durable.specs.Standing.{StandsFor}
use Rattle.release.specs.Page.{answer}
use Rattle.node.specs.declared.to.To.{To}
use Rattle.node.specs.declared.node.Node.{Node as Running}
use Rattle.node.specs.Nodes.{Value, Up, Down, Node, opened}
use Rattle.node.specs.Effects.{messages_of}
use Rattle.node.specs.Calls.{Call, submit, tick, widen, ask, tell, deliver, keep}
use Rattle.node.specs.Endings.{Ending, Failed, Ends}
use Rattle.node.specs.Ahead.{IsAheadOf}
use Rattle.node.specs.Batches.{SealsAt, LosesOneOf}
use Rattle.node.specs.Standing.{IsNodeOf, IsOnDisk, IsEither, IsEvent, OpensAs}
use Rattle.world.specs.declared.event.Event.{Event}
use Rattle.world.specs.declared.event.Event.TheVariants.{Submit, Tick, Widen, Ask, Tell, Deliver, Crash}
use Rattle.world.specs.declared.event.Event.TheVariants.{Restart, Keep}
use Rattle.world.specs.Worlds.{World, Moves, Runs, start}
use Rattle.world.specs.Taking.{node_of}
use Rattle.world.specs.Decided.{Publishes}
use Rattle.world.specs.Agreement.{AnswersAsOne}
use Rattle.world.specs.Worked.{at}

-- ---- the calls of a batch

-- calls of node p of n from s on, one after another, each in an ending that it has: what they hand out
-- together, and the node after them
abbrev pub AllEnd : ℕ → ℕ → Node → List Call → List (To × Message) → Node → Type 0
AllEnd n p s [] out next = (out ≡ []) × (next ≡ s)
AllEnd n p s (call ∷ calls) out next =
    (ending : Ending) × (first : List (To × Message)) × (mid : Node) × (then : List (To × Message))
    × Ends n p s call ending first mid × AllEnd n p mid calls then next
    × (out ≡ first ++ then)

-- the call as an event of node p. A delivery names the index of its message among the messages sent. A
-- telling is one event, whoever it is for
abbrev pub IsEventOf : ℕ → List Message → Call → Event → Type 0
IsEventOf p sent (submit v) event = event ≡ Submit p v
IsEventOf p sent tick event = event ≡ Tick p
IsEventOf p sent widen event = event ≡ Widen p
IsEventOf p sent ask event = event ≡ Ask p
IsEventOf p sent (tell to i) event = event ≡ Tell p i
IsEventOf p sent (keep i) event = event ≡ Keep p i
IsEventOf p sent (deliver m) event = (index : ℕ) × (slice_get sent index ≡ Some m) × (event ≡ Deliver p index)

-- the events of the calls, in order
abbrev pub AreEventsOf : ℕ → List Message → List Call → List Event → Type 0
AreEventsOf p sent [] [] = ⊤
AreEventsOf p sent (call ∷ calls) (event ∷ events) = IsEventOf p sent call event
    × AreEventsOf p sent calls events
AreEventsOf p sent _ _ = ⊥

-- a batch at node p of world w: its calls lead from that node to the next one, and what they deliver was
-- handed out before the first of them
pub record IsBatch (n : ℕ) (w : World) (events : List Event) (p : ℕ) (out : List (To × Message))
    (next : Node) : Type 0 where
  pub calls : List Call
  pub in_cluster : IsNode n p
  pub are_events : AreEventsOf p w.sent calls events
  pub ends : AllEnd n p (w.node p) calls out next

-- ---- where events lead

-- from w these events lead to a world in which node p is the new one, no other node has changed, and these
-- messages were handed out
pub record LeadTo (n : ℕ) (w : World) (events : List Event) (p : ℕ) (out : List Message)
    (new : Node) : Type 0 where
  pub after : World
  pub runs : Runs n w events after
  pub moves : Moves n w p out new after

-- after these events node p crashes, with these entries on record
abbrev pub CrashesBehind : ℕ → World → List Event → ℕ → List Message → List Entry → Type 0
CrashesBehind n w events p out entries = (choice : ℕ)
    → LeadTo n w (events ++ Crash p choice ∷ []) p out (opened Down entries None)

-- the node crashes before the first of the events, or after the last one
abbrev pub CrashesAround : ℕ → World → List Event → ℕ → List Message → List Entry → Type 0
CrashesAround n w events p out entries = CrashesBehind n w [] p [] entries
    ⊎ CrashesBehind n w events p out entries

-- the file stands for what the node then has on record
abbrev pub IsLeft : ℕ → World → List Event → ℕ → List Message → List ℕ → Type 0
IsLeft n w events p out file = (entries : List Entry) × StandsFor p n file entries
    × CrashesAround n w events p out entries

-- ---- what holds of batches

-- calls that deliver messages that were handed out are events
abbrev pub CallsAreEvents : Type 0
CallsAreEvents = (p : ℕ) (sent : List Message) (calls : List Call)
    → ((m : Message) → In calls (deliver m) → In sent m) → (events : List Event)
    × AreEventsOf p sent calls events

-- what a batch's calls hand out is from their node
abbrev pub SaysItself : Type 0
SaysItself = (n p : ℕ) (s next : Node) (calls : List Call) (out : List (To × Message))
    → AllEnd n p s calls out next → (x : To × Message) → In out x → sender_of x.1 ≡ p

-- what other nodes do while the batch is open may come before it
abbrev pub OthersComeFirst : Type 0
OthersComeFirst = (n : ℕ) (w later : World) (between events : List Event) (p : ℕ) (out : List (To
    × Message)) (next : Node) → ((event : Event) → In between event → node_of event ≢ p)
    → Runs n w between later
    → IsBatch n w events p out next → IsBatch n later events p out next

-- a batch that is sealed is the run of its events
abbrev pub SealedIsARun : Type 0
SealedIsARun = (n : ℕ) (w : World) (events : List Event) (p : ℕ) (out : List (To × Message)) (next : Node)
    → IsBatch n w events p out next → LeadTo n w events p (messages_of out) next

-- a batch that is cut short is a crash of its node, before the first of its events or after the last one. The
-- file that is left shows which
abbrev pub CrashIsARun : Type 0
CrashIsARun = (n : ℕ) (w : World) (events : List Event) (p : ℕ) (out : List (To × Message)) (next : Node)
    → IsBatch n w events p out next
    → (file : List ℕ) → IsEither p n (w.node p) next file → IsLeft n w events p (messages_of out) file

-- an event opens the node again, whatever happened at other nodes since
abbrev pub OpeningIsARun : Type 0
OpeningIsARun = (n : ℕ) (w : World) (p : ℕ) (entries : List Entry) → IsNode n p
    → w.node p ≡ opened Down entries None → LeadTo n w (Restart p ∷ []) p [] (opened Up entries None)

-- The run that led to w goes on with these events. Its nodes then answer as one list of values does, and as
-- those of w do
pub record LedOn (n : ℕ) (earlier events : List Event) (w after : World) : Type 0 where
  pub runs : Runs n start (earlier ++ events) after
  pub as_one : AnswersAsOne n (earlier ++ events) after
  pub alike : (p q r : ℕ) (xs ys : List Value) → Publishes (w.node p) xs r → Publishes (after.node q) ys r
      → (path : List ℕ) → answer xs r path ≡ answer ys r path

-- so all that holds of every schedule holds in the world to which a batch leads: sealed, cut short, or opened
-- again
abbrev pub BatchesAgree : Type 0
BatchesAgree = (n : ℕ) (earlier : List Event) (w : World) → Runs n start earlier w
    → (events : List Event) (p : ℕ) (out : List Message) (new : Node) → (to : LeadTo n w events p out new)
    → LedOn n earlier events w to.after

-- ---- a running node, and its disk

-- A batch is open at node p of n, whose value this is. Its disk has on record what the node has in w, and its
-- memory has what the next node has
pub record IsOpenAt {D : Type 0} (stands_for : D → DiskState → Type 0) (code : Running D) (n : ℕ) (w : World)
    (events : List Event) (p : ℕ) (out : List (To × Message)) (next : Node) (d : DiskState) : Type 0 where
  pub me : code.me ≡ p
  pub cluster : code.cluster ≡ n
  pub batch : IsBatch n w events p out next
  pub ahead : IsAheadOf stands_for code (w.node p) next d

-- the calls so far and one more, over the same disk. The device did not fail in it
pub record GoesOn {D : Type 0} (stands_for : D → DiskState → Type 0) (new : Running D) (n p : ℕ) (s : Node)
    (calls : List Call) (ending : Ending) (before after out : List (To × Message))
    (d : DiskState) : Type 0 where
  pub next : Node
  pub more : List (To × Message)
  pub ends : AllEnd n p s calls (out ++ more) next
  pub stands : IsNodeOf new next
  pub ahead : IsAheadOf stands_for new s next d
  pub outbox : after ≡ before ++ more
  pub unfailed : ending ≢ Failed

-- a call of the node continues the batch that is open
abbrev pub CallsGoOn : {D : Type 0} → (D → DiskState → Type 0) → Type 0
CallsGoOn stands_for = (old new : Running _) (call : Call) (ending : Ending) (before after : List (To
    × Message)) → IsEvent stands_for old new call ending before after
    → (n p : ℕ) (s t : Node) (calls : List Call) (out : List (To × Message)) (d : DiskState) → old.me ≡ p
    → old.cluster ≡ n → IsNodeOf old t → IsAheadOf stands_for old s t d → AllEnd n p s calls out t
    → GoesOn stands_for new n p s (calls ++ call ∷ []) ending before after out d

-- what a crash leaves before the seal
abbrev pub LeftBefore : {D : Type 0} → (D → DiskState → Type 0) → Type 0
LeftBefore stands_for = (code : Running _) (n : ℕ) (w : World) (events : List Event) (p : ℕ) (out : List (To
    × Message)) (next : Node) (d : DiskState) → IsOpenAt stands_for code n w events p out next d
    → (file : List ℕ) → MayLeave (moment d) file → IsLeft n w events p (messages_of out) file

-- what a crash leaves at each moment of the seal, and after it
abbrev pub LeftSealed : {D : Type 0} → (D → DiskState → Type 0) → Type 0
LeftSealed stands_for =
    (old new : Running _) (n : ℕ) (w : World) (events : List Event) (p : ℕ) (out : List (To × Message))
    (next : Node) (d : DiskState) → IsOpenAt stands_for old n w events p out next d
    → IsNodeOf old next → SealsAt stands_for old new → (e : DiskState) × IsOnDisk stands_for new next e
    × LeavesOnly d e (IsLeft n w events p (messages_of out))

-- what a crash leaves at each moment of a seal in which the device failed; and what is on the disk if there
-- is no crash
abbrev pub LeftFailed : {D : Type 0} → (D → DiskState → Type 0) → Type 0
LeftFailed stands_for =
    (old : Running _) (disk : _) (n : ℕ) (w : World) (events : List Event) (p : ℕ) (out : List (To × Message))
    (next : Node) (d : DiskState) → IsOpenAt stands_for old n w events p out next d
    → LosesOneOf stands_for old disk → (e : DiskState) × stands_for disk e
    × LeavesOnly d e (IsLeft n w events p (messages_of out)) × IsLeft n w events p (messages_of out) e.seen

-- the node that is opened over what is left has on record what the crash left
abbrev pub OpenedOver : {D : Type 0} → (D → DiskState → Type 0) → Type 0
OpenedOver stands_for = (disk : _) (d : DiskState) (code : Running _) (entries : List Entry)
    → OpensAs stands_for disk code entries → stands_for disk d
    → (n : ℕ) (w : World) (events : List Event) (p : ℕ) (out : List Message) → code.me ≡ p → code.cluster ≡ n
    → IsLeft n w events p out d.seen → CrashesAround n w events p out entries

-- ---- one batch

-- Node 1 of three has asked for a promise. In a batch node 2 gives it and begins an attempt of its own: two
-- entries, and two messages
pub record SomeBatchIsTaken : Type 0 where
  pub w : World
  pub out : List (To × Message)
  pub next : Node
  pub runs : Runs 3 start (Tick 1 ∷ []) w
  pub batch : IsBatch 3 w (Deliver 2 0 ∷ Tick 2 ∷ []) 2 out next
  pub puts : next.entries ≡ Promised 1 (at 1 1) ∷ Round 1 ∷ []
  pub said : messages_of out ≡ say.Promise 2 1 (at 1 1) None ∷ say.Prepare 2 1 (at 1 2) 1 ∷ []
