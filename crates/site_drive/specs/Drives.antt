-- What a drive does with its node: turn after turn, and then a tick with widenings, or a question, or another
-- call.
use Rattle.std.specs.Prelude.{◌≡◌, ◌≢◌, ◌⊎◌, ℕ, zero, suc, ◌+◌, ◌<◌, ◌≤◌, Option, Some, None, List, [], ◌∷◌}
use Rattle.std.specs.Prelude.{◌++◌, length, map, take, flat_map}
use Rattle.site_ids.specs.Ids.{IsInstance}
use Rattle.wire.specs.declared.message.Message.{Message}
use Rattle.wire.specs.Decoding.{Spells}
use Rattle.wire.specs.Spelling.{spelled}
use Rattle.node.specs.declared.fault.NodeFault.{NodeFault}
use Rattle.node.specs.declared.fault.NodeFault.TheVariants.{OutOfMemory, InstancesUsedUp}
use Rattle.node.specs.declared.to.To.{To}
use Rattle.node.specs.declared.to.To.TheVariants.{One, All}
use Rattle.node.specs.Nodes.{Node, WantsTick, IsKnownPrefix}
use Rattle.node.specs.Calls.{tick, widen, ask, tell, deliver, keep, MayWiden}
use Rattle.node.specs.Endings.{Ending, Whole, Refused, Ends}
use Rattle.node.specs.Standing.{ending_by}
use Rattle.site_drive.specs.declared.last_call.LastCall.{LastCall}
use Rattle.site_drive.specs.declared.last_call.LastCall.TheVariants.{TickOrAsk, Widen, Ask, Tell, Keep}
use Rattle.site_drive.specs.declared.last_call.LastCall.TheVariants.{Nothing}

-- ---- turns

-- what one receive gave: a datagram, or nothing
abbrev pub Heard : Type 0
Heard = Option (List ℕ)

-- A turn at node p of n. A datagram that spells a message is delivered whole; any other counts as malformed,
-- and does nothing
abbrev pub Takes : ℕ → ℕ → Node → Heard → ℕ → List (To × Message) → Node → Type 0
Takes n p s None malformed out next = (malformed ≡ 0) × (out ≡ []) × (next ≡ s)
Takes n p s (Some bytes) malformed out next =
    ((m : Message) × Spells n bytes m × Ends n p s (deliver m) Whole out next × (malformed ≡ 0))
    ⊎ (((m : Message) → ¬ Spells n bytes m) × (malformed ≡ 1) × (out ≡ []) × (next ≡ s))

-- turn after turn
abbrev pub TakesAll : ℕ → ℕ → Node → List Heard → ℕ → List (To × Message) → Node → Type 0
TakesAll n p s [] malformed out next = (malformed ≡ 0) × (out ≡ []) × (next ≡ s)
TakesAll n p s (h ∷ hs) malformed out next =
    (mid : Node) × (one : ℕ) × (others : ℕ) × (first : List (To × Message)) × (then : List (To × Message))
    × Takes n p s h one first mid × TakesAll n p mid hs others then next
    × (malformed ≡ one + others) × (out ≡ first ++ then)

-- the datagrams among what was heard
abbrev pub datagrams : List Heard → List (List ℕ)
datagrams [] = []
datagrams (None ∷ hs) = datagrams hs
datagrams (Some bytes ∷ hs) = bytes ∷ datagrams hs

-- ---- what the link is given

-- the numbers from 1 to n
abbrev pub up_to : ℕ → List ℕ
up_to zero = []
up_to (suc n) = up_to n ++ suc n ∷ []

-- a message for one node goes to it, and a message for all to each node in order
abbrev pub addressed : ℕ → To × Message → List (ℕ × List ℕ)
addressed n (One p, m) = (p, spelled m) ∷ []
addressed n (All, m) = map (λ p. (p, spelled m)) (up_to n)

abbrev pub sent_of : ℕ → List (To × Message) → List (ℕ × List ℕ)
sent_of n out = flat_map (addressed n) out

-- ---- a node and its link

-- a node, what its link has received, and what the link was given to send
pub record Scene : Type 0 where
  pub node : Node
  pub received : List (List ℕ)
  pub given : List (ℕ × List ℕ)

-- Some turns: what was heard is handled turn after turn, and what is handed out is given to the link. After a
-- turn all that is known without a gap is fed
pub record Exchanges (n p turns malformed : ℕ) (fed : List (List ℕ)) (before after : Scene) : Type 0 where
  pub heard : List Heard
  pub out : List (To × Message)
  pub turns_are : length heard ≡ turns
  pub takes : TakesAll n p before.node heard malformed out after.node
  pub received : after.received ≡ before.received ++ datagrams heard
  pub given : after.given ≡ before.given ++ sent_of n out
  pub fed_is : turns ≢ 0 → IsKnownPrefix after.node fed

-- ---- after the last turn

-- k widenings, one after another, each of which begins an attempt
abbrev pub Begin : ℕ → ℕ → ℕ → Node → List (To × Message) → Node → Type 0
Begin n p zero s out next = (out ≡ []) × (next ≡ s)
Begin n p (suc k) s out next =
    (mid : Node) × (first : List (To × Message)) × (then : List (To × Message))
    × Begin n p k s first mid × MayWiden mid × Ends n p mid widen Whole then next × (out ≡ first ++ then)

-- such widenings, and then a last one, which ends in this way and hands out nothing
pub record Widens (n p : ℕ) (s : Node) (ending : Ending) (out : List (To × Message))
    (next : Node) : Type 0 where
  pub count : ℕ
  pub mid : Node
  pub begin : Begin n p count s out mid
  pub last : Ends n p mid widen ending [] next

-- a tick, and then widenings
pub record TicksAndWidens (n p : ℕ) (s : Node) (ending : Ending) (out : List (To × Message))
    (next : Node) : Type 0 where
  pub mid : Node
  pub ticked : List (To × Message)
  pub widened : List (To × Message)
  pub ticks : Ends n p s tick Whole ticked mid
  pub widens : Widens n p mid ending widened next
  pub out_is : out ≡ ticked ++ widened

-- If a tick is wanted, the tick ends in this way and is not whole; or widenings follow it, and the last of
-- them ends in this way. If no tick is wanted, a question ends in this way
abbrev pub TicksOrAsks : ℕ → ℕ → Node → Ending → List (To × Message) → Node → Type 0
TicksOrAsks n p s ending out next =
    (WantsTick s × (((ending ≢ Whole) × Ends n p s tick ending out next)
    ⊎ TicksAndWidens n p s ending out next))
    ⊎ ((¬ WantsTick s) × Ends n p s ask ending out next)

-- what is known at k instances from i on is kept, one instance after another
abbrev pub KeepAll : ℕ → ℕ → ℕ → ℕ → Node → Node → Type 0
KeepAll n p i zero s next = next ≡ s
KeepAll n p i (suc k) s next = (mid : Node) × KeepAll n p i k s mid
    × Ends n p mid (keep (i + k)) Whole [] next

-- the same for `count` instances, as far as there are instances; or it ends in this way at one of them
pub record KeepsEach (n p i count : ℕ) (s : Node) (ending : Ending) (next : Node) : Type 0 where
  pub whole : ℕ
  pub mid : Node
  pub few : whole ≤ count
  pub kept : KeepAll n p i whole s mid
  pub then :
      ((ending ≡ Whole) × (next ≡ mid) × ((whole ≡ count) ⊎ ¬ IsInstance (i + whole)))
      ⊎ ((ending ≢ Whole) × (whole < count) × Ends n p mid (keep (i + whole)) ending [] next)

-- the calls after the last turn end in this way, if there are any
abbrev pub EndsLast : LastCall → ℕ → ℕ → Node → Ending → List (To × Message) → Node → Type 0
EndsLast TickOrAsk n p s ending out next = TicksOrAsks n p s ending out next
EndsLast Widen n p s ending out next = Widens n p s ending out next
EndsLast Ask n p s ending out next = Ends n p s ask ending out next
EndsLast (Tell q i) n p s ending out next = Ends n p s (tell (One q) i) ending out next
EndsLast (Keep i count) n p s ending out next = KeepsEach n p i count s ending next × (out ≡ [])
EndsLast Nothing n p s ending out next = (ending ≡ Whole) × (out ≡ []) × (next ≡ s)

-- the calls are whole; or they are refused because every instance is known, which is ignored
abbrev pub EndsTurns : LastCall → ℕ → ℕ → Node → List (To × Message) → Node → Type 0
EndsTurns last n p s out next = EndsLast last n p s Whole out next
    ⊎ EndsLast last n p s (Refused InstancesUsedUp) out next

-- what they hand out is given to the link
pub record Closes (last : LastCall) (n p : ℕ) (before after : Scene) : Type 0 where
  pub out : List (To × Message)
  pub ends : EndsTurns last n p before.node out after.node
  pub received : after.received ≡ before.received
  pub given : after.given ≡ before.given ++ sent_of n out

-- turns, and what comes after the last one
pub record DrivesWith (last : LastCall) (n p turns malformed : ℕ) (fed : List (List ℕ))
    (before after : Scene) : Type 0 where
  pub mid : Scene
  pub turns_first : Exchanges n p turns malformed fed before mid
  pub then_closes : Closes last n p mid after
  pub fed_is : turns ≢ 0 → IsKnownPrefix after.node fed

-- in a drive: a tick with widenings, or a question
abbrev pub Drives : ℕ → ℕ → ℕ → ℕ → List (List ℕ) → Scene → Scene → Type 0
Drives = DrivesWith TickOrAsk

-- ---- given up

-- the link was given a beginning of what was handed out
abbrev pub IsPartlyGiven : ℕ → List (To × Message) → Scene → Scene → Type 0
IsPartlyGiven n out before after = (k : ℕ) × (after.given ≡ before.given ++ take k (sent_of n out))

-- a turn that is not whole: its delivery ends by this fault; or an allocation failed as the datagram was
-- read, and it is not delivered
abbrev pub BreaksOff : ℕ → ℕ → Node → List ℕ → NodeFault → Node → Type 0
BreaksOff n p s bytes fault next =
    (m : Message) × Spells n bytes m
    × (Ends n p s (deliver m) (ending_by fault) [] next ⊎ ((fault ≡ OutOfMemory) × (next ≡ s)))

-- Given up in a turn: some turns were taken, and one broke off; or an allocation failed in publishing, or in
-- sending what was handed out
pub record GivesUp (n p turns : ℕ) (fault : NodeFault) (before after : Scene) : Type 0 where
  pub heard : List Heard
  pub malformed : ℕ
  pub out : List (To × Message)
  pub mid : Node
  pub taken : TakesAll n p before.node heard malformed out mid
  pub given : IsPartlyGiven n out before after
  pub how :
      ((bytes : List ℕ) × BreaksOff n p mid bytes fault after.node
      × (after.received ≡ before.received ++ datagrams (heard ++ Some bytes ∷ []))
      × (suc (length heard) ≤ turns))
      ⊎ ((fault ≡ OutOfMemory) × (after.node ≡ mid) × (after.received ≡ before.received ++ datagrams heard)
      × (length heard ≤ turns))

-- given up after the last turn: the last call ended by this fault, which is not ignored; or an allocation
-- failed in sending what was handed out
pub record GivesUpLast (last : LastCall) (n p : ℕ) (fault : NodeFault) (before after : Scene) : Type 0 where
  pub out : List (To × Message)
  pub ends : EndsLast last n p before.node (ending_by fault) out after.node
      ⊎ ((fault ≡ OutOfMemory) × EndsTurns last n p before.node out after.node)
  pub other : fault ≢ InstancesUsedUp
  pub received : after.received ≡ before.received
  pub given : IsPartlyGiven n out before after

-- given up in a turn, or after all turns
abbrev pub GivesUpDrivingWith : LastCall → ℕ → ℕ → ℕ → NodeFault → Scene → Scene → Type 0
GivesUpDrivingWith last n p turns fault before after =
    GivesUp n p turns fault before after
    ⊎ ((mid : Scene) × (malformed : ℕ) × (fed : List (List ℕ)) × Exchanges n p turns malformed fed before mid
    × GivesUpLast last n p fault mid after)

abbrev pub GivesUpDriving : ℕ → ℕ → ℕ → NodeFault → Scene → Scene → Type 0
GivesUpDriving = GivesUpDrivingWith TickOrAsk
