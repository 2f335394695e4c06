-- A proposal that nobody overbids decides in two rounds.
use Rattle.std.specs.Prelude.{◌≡◌, ℕ, Some, None, List}
use Rattle.site_ids.specs.Ids.{BallotOf, IsInstance, IsNode, NotAbove}
use Rattle.site_ids.specs.Lists.{In}
use Rattle.site_ids.specs.Spans.{IsInSpan}
use Rattle.wire.specs.declared.message.Message.{Message}
use Rattle.wire.specs.declared.message.Message.TheVariants.{Prepare, Promise, Propose, Accepted, Nack, Ask}
use Rattle.wire.specs.declared.message.Message.TheVariants.{Chosen}
use Rattle.wire.specs.Decoding.{Spells}
use Rattle.wire.specs.Messages.{instance_of}
use Rattle.durable.specs.Entries.{Entry, Raises}
use Rattle.proposer.specs.Attempts.{Attempt}
use Rattle.node.specs.Nodes.{Value, IsMute}
use Rattle.world.specs.declared.event.Event.{Event}
use Rattle.rounds.specs.Rounds.{Group, IsRound, AreRounds}
use Rattle.rounds.specs.Agreeing.{IsLedTo}

-- the message asks for a promise or a vote at this ballot and instance
abbrev pub Requests : Message → ℕ → BallotOf → Type 0
Requests (Prepare q j c k) i b = IsInSpan j k i × (c ≡ b)
Requests (Promise q j c prior) i b = ⊥
Requests (Propose q j c v) i b = (j ≡ i) × (c ≡ b)
Requests (Accepted q j c v) i b = ⊥
Requests (Nack q j c d) i b = ⊥
Requests (Ask q j) i b = ⊥
Requests (Chosen q j v) i b = ⊥

-- the servers promised no ballot above this one at the instance
abbrev pub NobodyPromisedAbove : ℕ → ℕ → BallotOf → Group → Type 0
NobodyPromisedAbove n i b g = (q : ℕ) → IsNode n q → (e : Entry) (c : BallotOf) → In (g q).node.entries e
    → Raises e i c → NotAbove c b

-- what waits for the servers asks for no ballot above this one at the instance
abbrev pub NobodyOverbids : ℕ → ℕ → BallotOf → Group → Type 0
NobodyOverbids n i b g = (q : ℕ) → IsNode n q → (bytes : List ℕ) (m : Message) (c : BallotOf)
    → In (g q).waits bytes → Spells n bytes m → Requests m i c → NotAbove c b

-- a proposal waits for every server, and none of them is mute at its instance or promised a higher ballot
-- there
pub record IsProposed (n i : ℕ) (b : BallotOf) (v : Value) (g : Group) : Type 0 where
  pub from : ℕ
  pub waits : (q : ℕ) → IsNode n q → (bytes : List ℕ) × In (g q).waits bytes
      × Spells n bytes (Propose from i b v)
  pub not_mute : (q : ℕ) → IsNode n q → ¬ IsMute (g q).node i
  pub promised : NobodyPromisedAbove n i b g

-- If a schedule led to this, and nobody overbids the proposal, every server knows the value after two rounds,
-- whichever servers tick in them
abbrev pub ProposalDecides : Type 0
ProposalDecides = (n d i : ℕ) (b : BallotOf) (v : Value) (events : List Event) (g h : Group)
    → IsLedTo n events g → IsProposed n i b v g → NobodyOverbids n i b g → AreRounds n d 2 g h
    → (q : ℕ) → IsNode n q → (h q).node.known i ≡ Some v

-- ---- an attempt

-- The node of ballot b has an attempt at the instance, which proposed nothing yet. Its prepare is about some
-- instances in a row, this one included, and waits for every server. No server is mute at the first of them,
-- or promised a higher ballot at this one
pub record IsAttempted (n i : ℕ) (b : BallotOf) (g : Group) : Type 0 where
  pub owner : IsNode n b.node
  pub attempt : Attempt
  pub at : (g b.node).node.attempts i ≡ Some attempt
  pub ballot : attempt.ballot ≡ b
  pub unmade : attempt.proposal ≡ None
  pub first : ℕ
  pub count : ℕ
  pub span : IsInSpan first count i
  pub waits : (q : ℕ) → IsNode n q → (bytes : List ℕ) × In (g q).waits bytes
      × Spells n bytes (Prepare b.node first b count)
  pub not_mute : (q : ℕ) → IsNode n q → ¬ IsMute (g q).node first
  pub promised : NobodyPromisedAbove n i b g

-- If a schedule led to this, and nobody overbids the attempt in the first two rounds, its node knows the
-- instance after four, whichever servers tick in the others
abbrev pub AttemptDecides : Type 0
AttemptDecides = (n d i : ℕ) (b : BallotOf) (events : List Event) (e f g h : Group) → IsLedTo n events e
    → IsAttempted n i b e → IsRound n d e f → IsRound n d f g → AreRounds n d 2 g h
    → NobodyOverbids n i b e → NobodyOverbids n i b f → NobodyOverbids n i b g
    → (v : Value) × ((h b.node).node.known i ≡ Some v)

-- ---- the highest ballot

-- what waits for some server asks for the ballot at the instance
pub record IsAskedFor (n i : ℕ) (b : BallotOf) (g : Group) : Type 0 where
  pub server : ℕ
  pub in_cluster : IsNode n server
  pub bytes : List ℕ
  pub message : Message
  pub waits : In (g server).waits bytes
  pub spells : Spells n bytes message
  pub asks : Requests message i b

-- no server is mute at an instance that some server does not know
abbrev pub NobodyIsMute : ℕ → Group → Type 0
NobodyIsMute n g = (q r j : ℕ) → IsNode n q → IsNode n r → IsInstance j → (g r).node.known j ≡ None
    → ¬ IsMute (g q).node j

-- A schedule led to a group, which takes a round. After it some server is asked for a ballot that no record
-- exceeds at the instance. Nobody overbids that ballot then or in the two rounds after. Then its node knows
-- the instance four rounds later
abbrev pub HighestDecides : Type 0
HighestDecides = (n d i : ℕ) (b : BallotOf) (events : List Event) (x e f g h : Group) → IsLedTo n events x
    → NobodyIsMute n x → IsRound n d x e → IsAskedFor n i b e → NobodyPromisedAbove n i b e
    → IsRound n d e f → IsRound n d f g → AreRounds n d 2 g h
    → NobodyOverbids n i b e → NobodyOverbids n i b f → NobodyOverbids n i b g
    → (v : Value) × ((h b.node).node.known i ≡ Some v)

-- If a server is asked for a ballot, and is not mute at the first instance of the request, that ballot or a
-- higher one is on its record after the round
abbrev pub RequestsAreHeeded : Type 0
RequestsAreHeeded = (n d i : ℕ) (b : BallotOf) (g h : Group) → IsRound n d g h → (q : ℕ) → IsNode n q
    → (bytes : List ℕ) (m : Message) → In (g q).waits bytes → Spells n bytes m → Requests m i b
    → ¬ IsMute (g q).node (instance_of m)
    → (e : Entry) × (c : BallotOf) × In (h q).node.entries e × Raises e i c × NotAbove b c
