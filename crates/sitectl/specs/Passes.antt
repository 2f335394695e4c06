-- What a server does with its node in a step, as calls of that node: the law on batches has them as events of
-- the world.
use Rattle.std.specs.Prelude.{◌≡◌, ℕ, List}
use Rattle.site_ids.specs.Ids.{IsNode}
use Rattle.site_ids.specs.Lists.{In}
use Rattle.wire.specs.declared.message.Message.{Message}
use Rattle.wire.specs.Decoding.{Spells}
use Rattle.node.specs.declared.fault.NodeFault.{NodeFault}
use Rattle.node.specs.declared.to.To.{To}
use Rattle.node.specs.Calls.{Call, deliver}
use Rattle.node.specs.Effects.{messages_of}
use Rattle.node.specs.Nodes.{Node}
use Rattle.node.specs.Standing.{IsEither}
use Rattle.site_drive.specs.declared.last_call.LastCall.{LastCall}
use Rattle.site_drive.specs.Batches.{HasWorked, GivesUpBatch}
use Rattle.site_drive.specs.Posting.{spelled_of}
use Rattle.server.specs.Passes.{TakesStep}
use Rattle.world.specs.declared.event.Event.{Event}
use Rattle.world.specs.Worlds.{World}
use Rattle.world.specs.Batches.{AllEnd, IsBatch, LeadTo, IsLeft}

-- each message that these calls deliver is spelled by one of these datagrams
abbrev pub AreSpelled : ℕ → List (List ℕ) → List Call → Type 0
AreSpelled n came calls = (m : Message) → In calls (deliver m) → (bytes : List ℕ) × In came bytes
    × Spells n bytes m

-- calls lead node p of n from one to the other and hand out these; what they deliver came by these datagrams
pub record AreCalls (n p : ℕ) (came : List (List ℕ)) (out : List (To × Message))
    (s next : Node) : Type 0 where
  pub calls : List Call
  pub ends : AllEnd n p s calls out next
  pub spelled : AreSpelled n came calls

-- nothing is forged: what one of these datagrams spells is one of these messages
abbrev pub NoneForged : ℕ → List Message → List (List ℕ) → Type 0
NoneForged n sent came = (bytes : List ℕ) → In came bytes → (m : Message) → Spells n bytes m → In sent m

-- ---- what holds of a server's steps

-- the work of a batch, whole, or given up, or not begun
abbrev pub WorkIsCalls : Type 0
WorkIsCalls = (last : LastCall) (n p : ℕ) (came : List (List ℕ)) (s next : Node)
    → HasWorked last n p came s next → (out : List (To × Message)) × AreCalls n p came out s next

-- A step: the calls of its batch and its submissions are calls of the node. Its letters are the messages that
-- these hand out
abbrev pub StepIsCalls : Type 0
StepIsCalls = (n p : ℕ) (came : List (List ℕ)) (letters : List (To
    × List ℕ)) (fed : List (List ℕ)) (s next : Node) → TakesStep n p came letters fed s next
    → (out : List (To × Message)) × AreCalls n p came out s next × (letters ≡ spelled_of out)

-- a batch that is given up: a beginning of it is
abbrev pub GivenUpIsCalls : Type 0
GivenUpIsCalls = (last : LastCall) (n p : ℕ) (came : List (List ℕ)) (why : NodeFault) (s next : Node)
    → GivesUpBatch last n p came why s next → (out : List (To × Message)) × AreCalls n p came out s next

-- If nothing is forged, such calls are a batch of the world: a run of their events. If the batch is cut
-- short, it is a crash before the first of them or after the last one
abbrev pub CallsAreABatch : Type 0
CallsAreABatch = (n p : ℕ) (came : List (List ℕ)) (out : List (To × Message)) (next : Node) (w : World)
    → IsNode n p → NoneForged n w.sent came → AreCalls n p came out (w.node p) next
    → (events : List Event) × IsBatch n w events p out next × LeadTo n w events p (messages_of out) next
    × ((file : List ℕ) → IsEither p n (w.node p) next file → IsLeft n w events p (messages_of out) file)
