-- Rounds of servers' code decide: what a server's code promises of a step is a step of a round.
use Rattle.std.specs.Prelude.{◌≡◌, ℕ, zero, suc, ◌+◌, ◌*◌, ◌<◌, ◌≤◌, Some, List, ◌∷◌, length}
use Rattle.site_ids.specs.Ids.{IsNode}
use Rattle.site_ids.specs.Lists.{In}
use Rattle.site_disk.specs.Model.{DiskState}
use Rattle.node.specs.declared.node.Node.{Node as Running}
use Rattle.node.specs.declared.to.To.{To}
use Rattle.node.specs.Nodes.{Value, Node}
use Rattle.node.specs.Standing.{IsNodeOf}
use Rattle.site_drive.specs.declared.last_call.LastCall.{LastCall}
use Rattle.server_pace.specs.declared.pace.Pace.{Pace}
use Rattle.server.specs.Mailing.{waiting_of, posted_of, own_of}
use Rattle.server.specs.Passes.{IsBatchOf, Paces}
use Rattle.server.specs.declared.mail.Mail.{Mail}
use Rattle.rounds.specs.Rounds.{Server, Group, Steps}
use Rattle.rounds.specs.Deciding.{IsCalm}

-- ---- a step

abbrev pub server_of : Node → Pace → List (List ℕ) → ℕ → Server
server_of s pace waits now = record { node = s; pace = pace; waits = waits; now = now }

-- `Server::step` has these two clauses, of its batch and of its pace. From each node that the code's node
-- stood for before, a step of a round leads to one that it stands for after the batch. This holds whatever
-- waits after it, and however many empty steps the pace counts
abbrev pub StepsAreSteps : {D : Type 0} → (D → DiskState → Type 0) → Type 0
StepsAreSteps stands_for = (old new : Running _) (before after : Mail) (pace paced : Pace) (last : LastCall)
    (malformed earlier now : ℕ)
    → IsBatchOf stands_for last (waiting_of before) malformed (posted_of after) old new
    → Paces old before now last pace paced
    → (s : Node) → IsNodeOf old s → (next : Node) × IsNodeOf new next
    × ((waits : List (List ℕ)) (empty : ℕ)
    → Steps old.cluster old.me (server_of s pace (waiting_of before) earlier)
    (server_of next (record paced { empty = empty }) waits now) (posted_of after))

-- ---- rounds

-- a server's code: its node, its mail, its pace, and the moment of its last step
pub record CodeServer (D : Type 0) : Type 0 where
  pub node : Running D
  pub mail : Mail
  pub pace : Pace
  pub now : ℕ

-- the group that the code stands for, with these nodes
abbrev pub group_of : {D : Type 0} → (ℕ → CodeServer D) → (ℕ → Node) → Group
group_of g nodes q = server_of (nodes q) (g q).pace (waiting_of (g q).mail) (g q).now

-- What `Server::step` promises of its batch and of its pace. These letters are those of the mail that it
-- leaves. Then the server rests, which counts the steps in which nothing came
pub record CodeSteps {D : Type 0} (stands_for : D → DiskState → Type 0) (x y : CodeServer D)
    (letters : List (To × List ℕ)) : Type 0 where
  pub last : LastCall
  pub malformed : ℕ
  pub left : Mail
  pub paced : Pace
  pub batch : IsBatchOf stands_for last (waiting_of x.mail) malformed (posted_of left) x.node y.node
  pub paces : Paces x.node x.mail y.now last x.pace paced
  pub rests : y.pace ≡ record paced { empty = y.pace.empty }
  pub letters_are : letters ≡ posted_of left

-- a round of the code of servers 1 to n, as `IsRound` has it
pub record IsCodeRound {D : Type 0} (stands_for : D → DiskState → Type 0) (n d : ℕ)
    (g h : ℕ → CodeServer D) : Type 0 where
  pub letters : ℕ → List (To × List ℕ)
  pub whose : (p : ℕ) → IsNode n p → ((g p).node.me ≡ p) × ((g p).node.cluster ≡ n)
  pub steps : (p : ℕ) → IsNode n p → CodeSteps stands_for (g p) (h p) (letters p)
  pub clocks : (p : ℕ) → IsNode n p → (suc (g p).now ≤ (h p).now) × ((h p).now ≤ (g p).now + d)
  pub arrive : (p q : ℕ) (bytes : List ℕ) → IsNode n p → IsNode n q → In (own_of p (letters q)) bytes
      → In (waiting_of (h p).mail) bytes
  pub alone : (p : ℕ) (bytes : List ℕ) → IsNode n p → In (waiting_of (h p).mail) bytes
      → (q : ℕ) × IsNode n q × In (own_of p (letters q)) bytes

abbrev pub AreCodeRounds : {D : Type 0} → (D → DiskState → Type 0) → ℕ → ℕ → ℕ → (ℕ → CodeServer D)
    → (ℕ → CodeServer D) → Type 0
AreCodeRounds stands_for n d zero g h = h ≡ g
AreCodeRounds stands_for n d (suc k) g h =
    (mid : ℕ → CodeServer _) × IsCodeRound stands_for n d g mid × AreCodeRounds stands_for n d k mid h

-- Five rounds of the code of a calm group decide. Each server's node then stands for one that knows the value
abbrev pub CodeRoundsDecide : {D : Type 0} → (D → DiskState → Type 0) → Type 0
CodeRoundsDecide stands_for = (n p d : ℕ) (values rest : List Value) (v : Value) (g h : ℕ → CodeServer _)
    (nodes : ℕ → Node) → ((q : ℕ) → IsNode n q → IsNodeOf (g q).node (nodes q))
    → IsCalm n p values (v ∷ rest) (group_of g nodes)
    → ((q : ℕ) → IsNode n q → 2 * d < (g q).pace.patience)
    → AreCodeRounds stands_for n d 5 g h → (q : ℕ) → IsNode n q
    → (s : Node) × IsNodeOf (h q).node s × (s.known (suc (length values)) ≡ Some v)
