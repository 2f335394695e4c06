-- Servers in rounds. In each round every server takes one step, and what the steps hand out waits before the
-- next ones.
use Rattle.std.specs.Prelude.{◌≡◌, ℕ, zero, suc, ◌+◌, ◌≤◌, Bool, List}
use Rattle.site_ids.specs.Ids.{IsNode}
use Rattle.site_ids.specs.Lists.{In}
use Rattle.wire.specs.declared.message.Message.{Message}
use Rattle.node.specs.declared.to.To.{To}
use Rattle.node.specs.Nodes.{Node}
use Rattle.site_drive.specs.declared.delivered.Delivered.{Delivered}
use Rattle.site_drive.specs.declared.last_call.LastCall.{LastCall}
use Rattle.site_drive.specs.Batches.{TakesBatch}
use Rattle.site_drive.specs.Delivering.{none_noted, AreNoted}
use Rattle.site_drive.specs.Posting.{spelled_of}
use Rattle.server_pace.specs.declared.pace.Pace.{Pace}
use Rattle.server_pace.specs.Pacing.{CallsDue, HearsBatch}
use Rattle.server.specs.Mailing.{own_of}

-- a server: its node, its pace, what waits for it, and the moment of its last step, in milliseconds since it
-- began
pub record Server : Type 0 where
  pub node : Node
  pub pace : Pace
  pub waits : List (List ℕ)
  pub now : ℕ

-- servers 1 to n of a group
abbrev pub Group : Type 0
Group = ℕ → Server

-- A step of server p of n. It makes the call that its pace says is due, after it took all that waited. The
-- pace hears what that was, and may count any number of steps in which nothing came. No client submits a
-- value
pub record Steps (n p : ℕ) (x y : Server) (letters : List (To × List ℕ)) : Type 0 where
  pub drained : Bool
  pub last : LastCall
  pub called : Pace
  pub delivered : Delivered
  pub heard : Pace
  pub malformed : ℕ
  pub out : List (To × Message)
  pub fed : List (List ℕ)
  pub calls : CallsDue x.pace n x.node y.now drained last called
  pub batch : TakesBatch last n p x.waits malformed out fed x.node y.node
  pub noted : AreNoted n x.waits none_noted delivered
  pub hears : HearsBatch called delivered heard
  pub rests : y.pace ≡ record heard { empty = y.pace.empty }
  pub letters_are : letters ≡ spelled_of out

-- Every server takes a step, and its clock goes on by 1 to d milliseconds. Before the next step all letters
-- for a server, from every server, wait for it, in any order and any number of times, and nothing else does
pub record IsRound (n d : ℕ) (g h : Group) : Type 0 where
  pub letters : ℕ → List (To × List ℕ)
  pub steps : (p : ℕ) → IsNode n p → Steps n p (g p) (h p) (letters p)
  pub clocks : (p : ℕ) → IsNode n p → (suc (g p).now ≤ (h p).now) × ((h p).now ≤ (g p).now + d)
  pub arrive : (p q : ℕ) (bytes : List ℕ) → IsNode n p → IsNode n q → In (own_of p (letters q)) bytes
      → In (h p).waits bytes
  pub alone : (p : ℕ) (bytes : List ℕ) → IsNode n p → In (h p).waits bytes
      → (q : ℕ) × IsNode n q × In (own_of p (letters q)) bytes

-- k rounds, one after another
abbrev pub AreRounds : ℕ → ℕ → ℕ → Group → Group → Type 0
AreRounds n d zero g h = h ≡ g
AreRounds n d (suc k) g h = (mid : Group) × IsRound n d g mid × AreRounds n d k mid h
