-- Fresh attempts that begin.
use Rattle.std.specs.Prelude.{ℕ, ◌+◌, ◌<◌, max, ◌≡◌, ◌≢◌, Some, List, ◌∷◌, length, false}
use Rattle.site_ids.specs.Ids.{BallotOf}
use Rattle.site_ids.specs.Spans.{IsSpan}
use Rattle.durable.specs.Entries.{Round}
use Rattle.wire.specs.declared.message.Message.{Message}
use Rattle.wire.specs.declared.message.Message.TheVariants.{Prepare}
use Rattle.proposer.specs.Attempts.{opened_span}
use Rattle.node.specs.declared.beginning.Beginning.{Beginning}
use Rattle.node.specs.declared.fault.NodeFault.{NodeFault}
use Rattle.node.specs.declared.fault.NodeFault.TheVariants.{OutOfMemory, Device}
use Rattle.node.specs.declared.node.Node.{Node as Running}
use Rattle.node.specs.declared.to.To.{To}
use Rattle.node.specs.declared.to.To.TheVariants.{All}
use Rattle.node.specs.Nodes.{Value, Node}
use Rattle.node.specs.Calls.{Call, Does}
use Rattle.node.specs.Effects.{Effect}
use Rattle.node.specs.Endings.{Refuses}
use Rattle.node.specs.Ranges.{IsCallInRange}
use Rattle.node.specs.Standing.{IsNodeOf}

-- a round goes on record, attempts begin with it at an instance and those after it, and their prepare goes
-- out before what is sent again
abbrev pub begun : ℕ → Node → ℕ → BallotOf → List Value → List (To × Message) → Effect
begun p s i b values again = record {
  entry = Some (Round b.round);
  after = record s { attempts = opened_span s.attempts i b values };
  out = (All, Prepare p i b (length values)) ∷ again;
}

-- the ballot that the node takes: above the last round on record, and above each round that a refusal
-- reported
abbrev pub next_of : {D : Type 0} → Running D → BallotOf
next_of code =
    record { round = max code.store.recorded.round code.proposer.heard + 1; node = code.proposer.me }

-- the call begins these attempts at each node that the code stands for, and there it may be refused if an
-- allocation fails
pub record IsDue {D : Type 0} (code : Running D) (call : Call) (due : Beginning) : Type 0 where
  pub running : code.store.stopped ≡ false
  pub above : code.store.recorded.round < due.ballot.round
  pub span : IsSpan due.first (length due.values.items)
  pub in_range : IsCallInRange code.cluster call
  pub does : (s : Node) → IsNodeOf code s
      → Does code.cluster code.me s call
      (begun code.me s due.first due.ballot due.values.items due.again.items)
  pub wants : (s : Node) → IsNodeOf code s → Refuses s call OutOfMemory

-- the call is refused with this fault, at each node that the code stands for
pub record IsRefusedBy {D : Type 0} (code : Running D) (call : Call) (fault : NodeFault) : Type 0 where
  pub in_range : IsCallInRange code.cluster call
  pub apart : fault ≢ Device
  pub refuses : (s : Node) → IsNodeOf code s → Refuses s call fault
