-- Rounds decide.
use Rattle.std.specs.Prelude.{◌≡◌, ◌≢◌, ◌⊎◌, ℕ, suc, ◌*◌, ◌<◌, ◌≤◌, nat_eq, if◌then◌else◌, false, Some, None}
use Rattle.std.specs.Prelude.{List, [], ◌∷◌, length}
use Rattle.site_ids.specs.Ids.{IsInstance, IsNode}
use Rattle.site_ids.specs.Lists.{In}
use Rattle.wire.specs.declared.message.Message.{Message}
use Rattle.wire.specs.Decoding.{Spells}
use Rattle.wire.specs.Messages.{kind_of, instance_of}
use Rattle.durable.specs.Entries.{IsPromise, learned_at}
use Rattle.node.specs.Nodes.{Value, Up, Node, IsMute, IsKnownPrefix, opened}
use Rattle.server_pace.specs.declared.pace.Pace.{Pace}
use Rattle.server_pace.specs.Pacing.{first_pace, IsBehind}
use Rattle.server_times.specs.declared.times.Times.{Times}
use Rattle.rounds.specs.Rounds.{Group, AreRounds}

-- A node at which nothing goes on. It knows these values without a gap, and counted no later instance. It has
-- no attempts. Its record has no promise, no vote and no value of the next instance, and it is not mute there
pub record IsCalmNode (values : List Value) (s : Node) : Type 0 where
  pub known : IsKnownPrefix s values
  pub reached : s.reached ≤ length values
  pub untried : (i : ℕ) → s.attempts i ≡ None
  pub unpromised : IsPromise s.entries (suc (length values)) None
  pub unlearned : learned_at (suc (length values)) s.entries ≡ None
  pub not_mute : ¬ IsMute s (suc (length values))

-- a pace that noted this many known values, and does not go on with what was on its record as it began
pub record IsCalmPace (known : ℕ) (pace : Pace) : Type 0 where
  pub noted : pace.ticking.known ≡ known
  pub resumes : pace.ticking.resumes ≡ false

-- a value was just submitted: no tick was wanted, the last batch delivered at most questions, and no server
-- that tried has its turn before this one
pub record IsFreshPace (pace : Pace) : Type 0 where
  pub none_wanted : pace.ticking.since ≡ None
  pub still : pace.stirred ≡ false
  pub turn : ¬ IsBehind pace.yielding pace.me

-- a question, or a message about an instance before this one, but no prepare
abbrev pub IsSettled : ℕ → Message → Type 0
IsSettled i m = (kind_of m ≡ 6) ⊎ ((kind_of m ≢ 1) × (instance_of m < i))

-- All servers of n are calm and know the same. Values are pending only at p, and were just submitted. What
-- waits for a server is settled
pub record IsCalm (n p : ℕ) (values pending : List Value) (g : Group) : Type 0 where
  pub in_cluster : IsNode n p
  pub next : IsInstance (suc (length values))
  pub nodes : (q : ℕ) → IsNode n q → IsCalmNode values (g q).node
  pub paces : (q : ℕ) → IsNode n q → IsCalmPace (length values) (g q).pace
  pub fresh : IsFreshPace (g p).pace
  pub pending_at : (g p).node.pending ≡ pending
  pub pending_else : (q : ℕ) → IsNode n q → q ≢ p → (g q).node.pending ≡ []
  pub settled : (q : ℕ) (bytes : List ℕ) (m : Message) → IsNode n q → In (g q).waits bytes → Spells n bytes m
      → IsSettled (suc (length values)) m

-- a group that begins over empty records, with these values pending only at p
abbrev pub begun_group : (ℕ → Times) → ℕ → ℕ → List Value → Group
begun_group times n p pending q = record {
  node = record (opened Up [] None) { pending = if nat_eq q p then pending else [] };
  pace = first_pace (times q) n q 0;
  waits = [];
  now = 0;
}

-- such a group is calm, so the law is about some groups
abbrev pub StartIsCalm : Type 0
StartIsCalm = (n p : ℕ) (times : ℕ → Times) (pending : List Value) → IsNode n p
    → IsCalm n p [] pending (begun_group times n p pending)

-- Two rounds take less than each patience. Then every server knows the oldest pending value after five
-- rounds: a tick, promises, a proposal, votes, and the count of a majority of votes
abbrev pub CalmRoundsDecide : Type 0
CalmRoundsDecide = (n p d : ℕ) (values rest : List Value) (v : Value) (g h : Group)
    → IsCalm n p values (v ∷ rest) g → ((q : ℕ) → IsNode n q → 2 * d < (g q).pace.patience)
    → AreRounds n d 5 g h → (q : ℕ) → IsNode n q → (h q).node.known (suc (length values)) ≡ Some v

-- a server still knows a value after any more rounds
abbrev pub RoundsKeep : Type 0
RoundsKeep = (n d k : ℕ) (g h : Group) → AreRounds n d k g h → (q i : ℕ) (v : Value) → IsNode n q
    → (g q).node.known i ≡ Some v → (h q).node.known i ≡ Some v
