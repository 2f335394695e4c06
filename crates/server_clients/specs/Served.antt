-- A node as a service: its pages and receipts are those of what it has published, and a submission is one of
-- its calls.
use Rattle.std.specs.Prelude.{◌≡◌, ℕ, List, [], Ok, Err}
use Rattle.command.specs.Effective.{effective}
use Rattle.command.specs.Releases.{release_count}
use Rattle.command.specs.Written.{value_of}
use Rattle.http_serve.specs.Services.{Offered, Outcome}
use Rattle.http_serve.specs.declared.submission.Submission.TheVariants.{Queued, Already}
use Rattle.http_serve.specs.declared.submission.SubmitFault.TheVariants.{Command, Busy, Stopped, OutOfMemory}
use Rattle.node.specs.Calls.{submit, IsAnswered}
use Rattle.node.specs.Endings.{Whole, Refused, Ends}
use Rattle.node.specs.Nodes.{Node, Value}
use Rattle.node.specs.Standing.{IsNodeOf, KeepsOthers}
use Rattle.node.specs.declared.fault.NodeFault.TheVariants as fault
use Rattle.node.specs.declared.submitted.Submitted.TheVariants as answered
use Rattle.release.specs.Page.{answer}
use Rattle.release.specs.Receipts.{receipt_of}
use Rattle.site_ids.specs.declared.Ticket.{Ticket}
use Rattle.server_clients.specs.declared.served.Served.{Served}

-- How the submission of a value ends at node p of n, which is s before it. It is queued, or its ticket is
-- held, in a whole call; or it is refused for the cause that is reported. An allocation may fail before the
-- call is made, or in it: then the node is as it was
abbrev pub ComesTo : ℕ → ℕ → Node → Value → Outcome → Node → Type 0
ComesTo n p s v (Ok Queued) next = Ends n p s (submit v) Whole [] next × IsAnswered s v answered.Queued
ComesTo n p s v (Ok Already) next = Ends n p s (submit v) Whole [] next × IsAnswered s v answered.Already
ComesTo n p s v (Err (Command why)) next = Ends n p s (submit v) (Refused (fault.NotACommand why)) [] next
ComesTo n p s v (Err Busy) next = Ends n p s (submit v) (Refused fault.QueueFull) [] next
ComesTo n p s v (Err Stopped) next = Ends n p s (submit v) (Refused fault.Stopped) [] next
ComesTo n p s v (Err OutOfMemory) next = next ≡ s

-- From each node that the service stands for, the submission of that ticket and text leads to one that it
-- stands for afterwards. The node stays the same, and so does what it has published and has on record
pub record Takes {D : Type 0} (old : Served D) (ticket : Ticket) (text : List ℕ) (done : Outcome)
    (new : Served D) : Type 0 where
  pub leads : (s : Node) → IsNodeOf old.node s → (next : Node)
      × ComesTo old.node.cluster old.node.me s (value_of ticket text) done next × IsNodeOf new.node next
  pub others : KeepsOthers old.node new.node
  pub record_is : new.node.store ≡ old.node.store

-- the service stands for each node that it stood for, and shows the same
pub record Stays {D : Type 0} (old new : Served D) : Type 0 where
  pub same : (s : Node) → IsNodeOf old.node s → IsNodeOf new.node s
  pub others : KeepsOthers old.node new.node
  pub record_is : new.node.store ≡ old.node.store

-- what a node offers in each of its states
abbrev pub offered : {D : Type 0} → Offered (Served D)
offered = record {
  newest_is = λ s. release_count (effective s.node.releases);
  page_is = λ s n path. answer s.node.releases n path;
  receipt_is = λ s ticket. receipt_of ticket s.node.releases;
  takes = Takes;
  stays = Stays;
}
