-- Which nodes of the definitions a running node stands for.
use Rattle.std.specs.Prelude.{◌≡◌, ◌↔◌, ◌⊎◌, ℕ, ◌<◌, ◌≤◌, ◌^◌, true, false, if◌then◌else◌, Option, None}
use Rattle.std.specs.Prelude.{List, ◌++◌, length, Result, Ok, Err}
use Rattle.site_disk.specs.Model.{DiskState, LeavesOnly, after_sync}
use Rattle.site_ids.specs.Lists.{In}
use Rattle.wire.specs.declared.message.Message.{Message}
use Rattle.wire.specs.Messages.{IsMessage}
use Rattle.durable.specs.Counts.{CountsFault}
use Rattle.durable.specs.Entries.{Entry}
use Rattle.durable.specs.Histories.{IsHistory}
use Rattle.durable.specs.Keeping.{IsFound, Keeps, Settles}
use Rattle.durable.specs.Reading.{IsKept}
use Rattle.durable.specs.Ready.{IsStored}
use Rattle.durable.specs.Standing.{StandsFor}
use Rattle.durable.specs.declared.record.Record.{Record}
use Rattle.learner.specs.ToldVotes.{ToldVote}
use Rattle.learner.specs.Votes.{IsTold}
use Rattle.proposer.specs.Standing.{Attempting}
use Rattle.node.specs.declared.fault.NodeFault.{NodeFault}
use Rattle.node.specs.declared.fault.NodeFault.TheVariants as fault
use Rattle.node.specs.declared.to.To.{To}
use Rattle.node.specs.declared.node.Node.{Node as Running}
use Rattle.node.specs.Ahead.{StaysAhead}
use Rattle.node.specs.Nodes.{Mode, Up, Stopped, Node, opened, BeginsKnown}
use Rattle.node.specs.Calls.{Call, deliver}
use Rattle.node.specs.Deliveries.{reached_by}
use Rattle.node.specs.Endings.{Ending, Whole, Refused, Failed, Ends}
use Rattle.node.specs.Knowing.{AreKnown}
use Rattle.node.specs.Ranges.{HasRanges}
use Rattle.node.specs.Tidy.{IsTidy}
use Rattle.node.specs.Waiting.{AreWaiting}

-- ---- in memory, over any disk

-- the record keeps what these entries record; while it runs, no entry is in flight
pub record IsOnRecord {D : Type 0} (store : Record D) (n : ℕ) (mode : Mode) (entries : List Entry)
    (in_flight : Option Entry) : Type 0 where
  pub mode_is : mode ≡ (if store.stopped then Stopped else Up)
  pub kept : IsKept entries store.recorded
  pub history : IsHistory n entries
  pub settled : store.stopped ≡ false → in_flight ≡ None

-- what a node keeps in memory and on record
pub record HasParts {D : Type 0} (code : Running D) (s : Node) : Type 0 where
  pub on_record : IsOnRecord code.store code.cluster s.mode s.entries s.in_flight
  pub votes : (t : ToldVote) → IsTold code.learner t ↔ In s.votes t
  pub known : AreKnown code.known code.releases s.known
  pub attempts : Attempting code.proposer s.attempts
  pub pending : AreWaiting code.queue.items.items s.pending
  pub heard : code.proposer.heard ≡ s.heard
  pub reached : code.reached ≡ s.reached

-- and the node is tidy and in range, and it published a beginning of the known prefix
pub record IsNodeOf {D : Type 0} (code : Running D) (s : Node) : Type 0 where
  pub parts : HasParts code s
  pub tidy : IsTidy s
  pub ranges : HasRanges code.cluster s
  pub fed : BeginsKnown code.releases s

-- ---- on the disk

-- The disk stands for this state. The state keeps the node's entries and the one in flight, whether it
-- crashes or not. While the node runs, all of it is synced
pub record IsOnDisk {D : Type 0} (stands_for : D → DiskState → Type 0) (code : Running D) (s : Node)
    (d : DiskState) : Type 0 where
  pub stands : stands_for code.store.disk d
  pub keeps : Keeps code.me code.cluster s.entries s.in_flight d
  pub stored : code.store.stopped ≡ false → IsStored stands_for code.store d s.entries

-- a file of node p of n with what either node has on record
abbrev pub IsEither : ℕ → ℕ → Node → Node → List ℕ → Type 0
IsEither p n s next file = IsFound p n s.entries s.in_flight file
    ⊎ IsFound p n next.entries next.in_flight file

-- After the call the disk is related to the node as before it. A crash at any moment of the call leaves what
-- may be left before the call or after it
abbrev pub StaysOnDisk : {D : Type 0} → (D → DiskState → Type 0) → Running D → Running D → Node → Node
    → Type 0
StaysOnDisk stands_for old new s next = (d : DiskState) → IsOnDisk stands_for old s d → (e : DiskState)
    × IsOnDisk stands_for new next e × LeavesOnly d e (IsEither old.me old.cluster s next)

-- ---- what others say of its record

abbrev pub disk_of : {D : Type 0} → Running D → D
disk_of code = code.store.disk

-- how many calls of its disk failed, by the disk's own count
abbrev pub failures : {D : Type 0} → (D → ℕ) → Running D → ℕ
failures failed code = failed (disk_of code)

-- a fault of its device has stopped it
abbrev pub HasStopped : {D : Type 0} → Running D → Type 0
HasStopped code = code.store.stopped ≡ true

-- ---- calls

-- messages are only added, at the end
abbrev pub OnlyGrows : List (To × Message) → List (To × Message) → Type 0
OnlyGrows before after = (more : List (To × Message)) × (after ≡ before ++ more)

-- Ok is the whole ending, the fault Device is the failed one, and any other fault is a refusal
abbrev pub ending_by : NodeFault → Ending
ending_by fault.Device = Failed
ending_by cause = Refused cause

abbrev pub ending_of : {T : Type 0} → Result T NodeFault → Ending
ending_of (Ok x) = Whole
ending_of (Err cause) = ending_by cause

-- From s the call ends like this, at a node that the new value stands for. The disk is as before, or the node
-- is ahead of it while a batch is open. The outbox has grown by what is handed out: at most 64 messages, each
-- of the cluster
pub record Leads {D : Type 0} (stands_for : D → DiskState → Type 0) (old new : Running D) (call : Call)
    (ending : Ending) (before after : List (To × Message)) (s : Node) : Type 0 where
  pub next : Node
  pub out : List (To × Message)
  pub ends : Ends old.cluster old.me s call ending out next
  pub stands : IsNodeOf new next
  pub on_disk : StaysOnDisk stands_for old new s next
  pub ahead : StaysAhead stands_for old new s next
  pub outbox : after ≡ before ++ out
  pub few : length out ≤ 64
  pub messages : (x : To × Message) → In out x → IsMessage old.cluster x.1

-- and it does so from each node that the old value stands for
pub record IsEvent {D : Type 0} (stands_for : D → DiskState → Type 0) (old new : Running D) (call : Call)
    (ending : Ending) (before after : List (To × Message)) : Type 0 where
  pub leads : (s : Node) → IsNodeOf old s → Leads stands_for old new call ending before after s

-- the node and its cluster stay the same, and so does what it published
pub record KeepsOthers {D : Type 0} (old new : Running D) : Type 0 where
  pub me : new.me ≡ old.me
  pub cluster : new.cluster ≡ old.cluster
  pub releases : new.releases ≡ old.releases

-- a round above the last one is on record
pub record TakesRound {D : Type 0} (old new : Running D) : Type 0 where
  pub above : old.store.recorded.round < new.store.recorded.round
  pub fits : new.store.recorded.round < 2 ^ 32

-- a failure of the device is counted exactly if it is reported
abbrev pub CountsDevice : {T : Type 0} → Result T NodeFault → ℕ → ℕ → Type 0
CountsDevice result before now = CountsFault fault.Device result before now

-- what a call does: it is this event, as its result says; its failures are counted; it only adds messages;
-- and the node stays the same
pub record TakesCall {D T : Type 0} (stands_for : D → DiskState → Type 0) (failed : D → ℕ)
    (old new : Running D) (call : Call) (result : Result T NodeFault)
    (before after : List (To × Message)) : Type 0 where
  pub event : IsEvent stands_for old new call (ending_of result) before after
  pub counts : CountsDevice result (failed old.store.disk) (failed new.store.disk)
  pub grows : OnlyGrows before after
  pub others : KeepsOthers old new

-- once a message was handled, it counts towards wanting a tick, unless it ended by a fault
abbrev pub counted : {D : Type 0} → Running D → Message → Result (Unit {0}) NodeFault → Running D → Running D
counted old m (Ok x) new = record new { reached = reached_by old.reached m }
counted old m (Err cause) new = new

-- a message of the cluster was handled but not counted: with the count, this is its delivery
abbrev pub IsHandled : {D : Type 0} → (D → DiskState → Type 0) → (D → ℕ) → Running D → Running D → Message
    → Result (Unit {0}) NodeFault → List (To × Message) → List (To × Message) → Type 0
IsHandled stands_for failed old new m result before after = IsMessage old.cluster m
    → TakesCall stands_for failed old (counted old m result new) (deliver m) result before after

-- ---- opening

-- no accident had cut its record short when it was opened
abbrev pub IsWhole : {D : Type 0} → Running D → Type 0
IsWhole code = code.store.cut_short ≡ false

-- The node has these entries on record, over any disk, and nothing else. They are the entries in the file of
-- each state that the disk stood for. If such a state kept a record with an entry in flight, they are that
-- record's, with that entry or without it.
pub record OpensAs {D : Type 0} (stands_for : D → DiskState → Type 0) (disk : D) (code : Running D)
    (entries : List Entry) : Type 0 where
  pub stands : IsNodeOf code (opened Up entries None)
  pub on_disk : (d : DiskState) → stands_for disk d
      → IsOnDisk stands_for code (opened Up entries None) (after_sync d)
  pub reads : (d : DiskState) → stands_for disk d → StandsFor code.me code.cluster d.seen entries
  pub settles : (d : DiskState) (kept : List Entry) (in_flight : Option Entry) → stands_for disk d
      → Keeps code.me code.cluster kept in_flight d → Settles kept in_flight entries
