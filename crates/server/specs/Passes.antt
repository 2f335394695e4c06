-- What a server does with its node: passes, each a batch of what came, and then requests of clients.
use Rattle.std.specs.Prelude.{◌≡◌, ◌≢◌, ◌⊎◌, ℕ, zero, suc, ◌+◌, ◌*◌, ◌<◌, ◌≤◌, List, [], ◌∷◌, ◌++◌, length}
use Rattle.std.specs.Prelude.{take, ⊤, Bool, IsTrue, ◌↔◌, Result, OnOk, IfErr}
use Rattle.site_ids.specs.Lists.{In}
use Rattle.site_ids.specs.declared.Ticket.{Ticket}
use Rattle.wire.specs.declared.message.Message.{Message}
use Rattle.command.specs.Written.{value_of}
use Rattle.http_serve.specs.Services.{Outcome}
use Rattle.site_disk.specs.Model.{DiskState, LeavesOnly}
use Rattle.durable.specs.Keeping.{IsFound}
use Rattle.node.specs.declared.fault.NodeFault.{NodeFault}
use Rattle.node.specs.declared.node.Node.{Node as Running}
use Rattle.node.specs.declared.to.To.{To}
use Rattle.node.specs.Nodes.{Node, IsKnownPrefix}
use Rattle.node.specs.Standing.{IsNodeOf, IsOnDisk}
use Rattle.site_drive.specs.Batches.{LeadsSealed, TakesBatch, GivesUpBatch, LosesBatch}
use Rattle.site_drive.specs.Delivering.{none_noted, AreNoted}
use Rattle.site_drive.specs.Posting.{spelled_of}
use Rattle.site_drive.specs.declared.delivered.Delivered.{Delivered}
use Rattle.site_drive.specs.declared.last_call.LastCall.{LastCall}
use Rattle.server_pace.specs.Pacing.{CallsDue, HearsBatch}
use Rattle.server_pace.specs.declared.pace.Pace.{Pace}
use Rattle.server.specs.Mailing.{waiting_of, HasRoom}
use Rattle.server.specs.declared.mail.Mail.{Mail}
use Rattle.server_faults.specs.ServerFaults.{of_node, EndsLaps}
use Rattle.server_clients.specs.Served.{ComesTo}
use Rattle.server_faults.specs.declared.server_fault.ServerFault.{ServerFault}
use Rattle.server_faults.specs.declared.server_fault.ServerFault.TheVariants as server_fault

-- ---- requests

-- the answer to a request at node p of n: nothing is done, or one submission is made, of a ticket and a text
abbrev pub MayTake : ℕ → ℕ → Node → Node → Type 0
MayTake n p s next = (next ≡ s)
    ⊎ ((ticket : Ticket) × (text : List ℕ) × (done : Outcome)
    × ComesTo n p s (value_of ticket text) done next)

-- the answers to some requests, one after another
abbrev pub MayTakeMany : ℕ → ℕ → ℕ → Node → Node → Type 0
MayTakeMany n p zero s next = next ≡ s
MayTakeMany n p (suc k) s next = (mid : Node) × MayTakeMany n p k s mid × MayTake n p mid next

-- ---- a step

-- A step: these datagrams are one batch, and after it these values are published. These letters are what the
-- batch handed out, each message once. Then requests are answered: of 64 clients at most, 100 of each at most
pub record TakesStep (n p : ℕ) (came : List (List ℕ)) (letters : List (To × List ℕ)) (fed : List (List ℕ))
    (s next : Node) : Type 0 where
  pub last : LastCall
  pub malformed : ℕ
  pub out : List (To × Message)
  pub mid : Node
  pub batch : TakesBatch last n p came malformed out fed s mid
  pub letters_are : letters ≡ spelled_of out
  pub requests : ℕ
  pub few : requests ≤ 6400
  pub takes : MayTakeMany n p requests mid next

-- a step that ends its server: its batch is given up; or the batch is whole, and an allocation failed as what
-- it handed out was spelled, or as a request was answered
abbrev pub BreaksStep : ℕ → ℕ → List (List ℕ) → ServerFault → Node → Node → Type 0
BreaksStep n p came why s next =
    ((last : LastCall) × (fault : NodeFault) × (why ≡ of_node fault)
    × GivesUpBatch last n p came fault s next)
    ⊎ ((why ≡ server_fault.OutOfMemory)
    × ((letters : List (To × List ℕ)) × (fed : List (List ℕ)) × TakesStep n p came letters fed s next))

-- a pass: one step over what has come
abbrev pub TakesPass : ℕ → ℕ → List (List ℕ) → Node → Node → Type 0
TakesPass n p fed s next = (came : List (List ℕ)) × (letters : List (To × List ℕ))
    × TakesStep n p came letters fed s next

-- a pass that ends its server: in its step, or because an allocation failed before it, for what came
abbrev pub BreaksPass : ℕ → ℕ → ServerFault → Node → Node → Type 0
BreaksPass n p why s next = ((came : List (List ℕ)) × BreaksStep n p came why s next)
    ⊎ ((why ≡ server_fault.OutOfMemory) × (next ≡ s))

-- ---- many

-- a step leads to each of these nodes from the one before it
abbrev pub AreSteps : (Node → Node → Type 0) → Node → List Node → Type 0
AreSteps Step s [] = ⊤
AreSteps Step s (x ∷ xs) = Step s x × AreSteps Step x xs

-- the node after all of them
abbrev pub last_of : Node → List Node → Node
last_of s [] = s
last_of s (x ∷ xs) = last_of x xs

-- `count` passes, one after another, each of which leads to one of these nodes. After the last one, all that
-- is known without a gap is published
pub record TakesPasses (n p count : ℕ) (fed : List (List ℕ)) (through : List Node)
    (s next : Node) : Type 0 where
  pub as_many : length through ≡ count
  pub each : AreSteps (λ x y. (then : List (List ℕ)) × TakesPass n p then x y) s through
  pub last : next ≡ last_of s through
  pub fed_is : count ≢ 0 → IsKnownPrefix next fed

-- some whole passes, fewer than `count`, and then one that ends the server
pub record BreaksPasses (n p count : ℕ) (why : ServerFault) (through : List Node)
    (s next : Node) : Type 0 where
  pub whole : ℕ
  pub fewer : whole < count
  pub mid : Node
  pub fed : List (List ℕ)
  pub front : List Node
  pub taken : TakesPasses n p whole fed front s mid
  pub breaks : BreaksPass n p why mid next
  pub through_is : through ≡ front ++ next ∷ []

-- a lap of node p has 40 + 10 p passes
abbrev pub passes_of : ℕ → ℕ → ℕ
passes_of p rounds = rounds * (40 + 10 * p)

-- a server's work that is not done: it cannot say that it is ready, and takes no pass; or a pass ends it; or
-- it cannot say that its laps are done
abbrev pub BreaksWork : ℕ → ℕ → ℕ → ServerFault → List Node → Node → Node → Type 0
BreaksWork n p count why through s next =
    (((why ≡ server_fault.OutOfMemory) ⊎ (why ≡ server_fault.Write)) × (through ≡ []) × (next ≡ s))
    ⊎ BreaksPasses n p count why through s next
    ⊎ ((why ≡ server_fault.Write) × (fed : List (List ℕ)) × TakesPasses n p count fed through s next)

-- ---- over a node of the code

-- a file of node p of n with what one of these nodes has on record
abbrev pub IsOneOf : ℕ → ℕ → List Node → List ℕ → Type 0
IsOneOf p n nodes file = (x : Node) × In nodes x × IsFound p n x.entries x.in_flight file

-- if the disk keeps the first node, it keeps the last one. A crash at any moment leaves what one of them, or
-- one of those between, has on record
abbrev pub StaysAlong : {D : Type 0} → (D → DiskState → Type 0) → Running D → Running D → Node → List Node
    → Node → Type 0
StaysAlong stands_for old new s through next = (d : DiskState) → IsOnDisk stands_for old s d
    → (e : DiskState) × IsOnDisk stands_for new next e
    × LeavesOnly d e (IsOneOf old.me old.cluster (s ∷ through))

-- From each node that the old value stands for this leads, through these nodes, to one that the new value
-- stands for
pub record Led {D : Type 0} (stands_for : D → DiskState → Type 0) (old new : Running D)
    (How : List Node → Node → Node → Type 0) : Type 0 where
  pub leads : (s : Node) → IsNodeOf old s
      → (through : List Node) × (next : Node) × How through s next × IsNodeOf new next
      × StaysAlong stands_for old new s through next

-- a batch over these datagrams, with that last call, is whole. This many of them spelled no message, and
-- these are the letters of what it handed out
abbrev pub IsBatchOf : {D : Type 0} → (D → DiskState → Type 0) → LastCall → List (List ℕ) → ℕ
    → List (To × List ℕ) → Running D → Running D → Type 0
IsBatchOf stands_for last came malformed letters old new = (out : List (To × Message))
    × LeadsSealed stands_for old new
    (λ s next. TakesBatch last old.cluster old.me came malformed out new.releases s next
    × (letters ≡ spelled_of out))

-- the same with some last call
abbrev pub IsBatched : {D : Type 0} → (D → DiskState → Type 0) → List (List ℕ) → ℕ → List (To × List ℕ)
    → Running D → Running D → Type 0
IsBatched stands_for came malformed letters old new = (last : LastCall)
    × IsBatchOf stands_for last came malformed letters old new

-- in a group of n, these are the nodes that sent the messages among these datagrams
abbrev pub AreSenders : ℕ → List (List ℕ) → List Bool → Type 0
AreSenders n came heard =
    (delivered : Delivered) × AreNoted n came none_noted delivered × (heard ≡ delivered.heard)

-- The pace of a step: it called what was due. All that had come was taken in if the mail had room. Then it
-- heard what the batch delivered
pub record Paces {D : Type 0} (node : Running D) (mail : Mail) (now : ℕ) (last : LastCall)
    (old new : Pace) : Type 0 where
  pub drained : Bool
  pub drained_is : IsTrue drained ↔ HasRoom mail
  pub mid : Pace
  pub calls : (s : Node) → IsNodeOf node s → CallsDue old node.cluster s now drained last mid
  pub delivered : Delivered
  pub noted : AreNoted node.cluster (waiting_of mail) none_noted delivered
  pub hears : HearsBatch mid delivered new

-- What may be sent though a step ended its server with this fault: nothing; or, if an allocation failed, the
-- first letters of its batch, which is sealed
abbrev pub MaySend : {D : Type 0} → (D → DiskState → Type 0) → List (List ℕ) → List (To × List ℕ)
    → ServerFault → Running D → Type 0
MaySend {D} stands_for came letters why old = (letters ≡ [])
    ⊎ ((why ≡ server_fault.OutOfMemory)
    × (mid : Running D) × (last : LastCall) × (malformed : ℕ) × (out : List (To × Message))
    × LeadsSealed stands_for old mid (λ s next.
    TakesBatch last old.cluster old.me came malformed out mid.releases s next
    × ((k : ℕ) × (letters ≡ take k (spelled_of out)))))

-- the device failed in a step
abbrev pub LosesStep : {D : Type 0} → (D → DiskState → Type 0) → List (List ℕ) → Running D → Running D
    → ServerFault → Type 0
LosesStep stands_for came old new why = (why ≡ server_fault.Stopped)
    × ((last : LastCall) × LosesBatch stands_for last came old new)

-- what a step leaves that ends its server with this fault, and what may still be sent
pub record EndsByStep {D : Type 0} (stands_for : D → DiskState → Type 0) (came : List (List ℕ))
    (letters : List (To × List ℕ)) (old new : Running D) (why : ServerFault) : Type 0 where
  pub leaves : LeadsSealed stands_for old new (BreaksStep old.cluster old.me came why)
      ⊎ LosesStep stands_for came old new why
  pub may_send : MaySend stands_for came letters why old
  pub ends : EndsLaps why

-- the device failed in a pass
abbrev pub LosesPass : {D : Type 0} → (D → DiskState → Type 0) → Running D → Running D → ServerFault → Type 0
LosesPass stands_for old new why = (came : List (List ℕ)) × LosesStep stands_for came old new why

-- some whole passes, fewer than `count`, and then one in which the device failed
pub record LosesPasses {D : Type 0} (stands_for : D → DiskState → Type 0) (old new : Running D) (count : ℕ)
    (why : ServerFault) : Type 0 where
  pub whole : ℕ
  pub fewer : whole < count
  pub mid : Running D
  pub fed : List (List ℕ)
  pub taken : Led stands_for old mid (TakesPasses old.cluster old.me whole fed)
  pub loses : LosesPass stands_for mid new why

-- all these passes are taken; or the work is not done, or the device failed in one of them
pub record EndsWork {D T : Type 0} (stands_for : D → DiskState → Type 0) (count : ℕ) (old new : Running D)
    (result : Result T ServerFault) : Type 0 where
  pub passes : OnOk result (Led stands_for old new (TakesPasses old.cluster old.me count new.releases))
  pub halted : IfErr result (λ why. Led stands_for old new (BreaksWork old.cluster old.me count why)
      ⊎ LosesPasses stands_for old new count why)
