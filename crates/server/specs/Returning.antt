-- A server that is coming back: it knows less than its record has, and leaves requests.
use Rattle.std.specs.Prelude.{◌≡◌, ◌⊎◌, ℕ, List, length}
use Rattle.node.specs.Nodes.{Node, Value, IsKnownPrefix}
use Rattle.node.specs.Standing.{IsNodeOf}
use Rattle.node.specs.declared.node.Node.{Node as Running}
use Rattle.server_clients.specs.Answering.{AreAnswered}
use Rattle.server_clients.specs.Served.{offered}
use Rattle.server_clients.specs.declared.seat.Seat.{Seat}
use Rattle.server_clients.specs.declared.served.Served.{Served}
use Rattle.server_pace.specs.Returning.{Returns}
use Rattle.server_pace.specs.declared.returning.Returning.{Returning}
use Rattle.server_times.specs.declared.times.Times.{Times}

-- the node knows so few values without a gap that requests are left
abbrev pub ComesBack : {D : Type 0} → Returning → ℕ → Running D → Type 0
ComesBack returning now node = (s : Node) → IsNodeOf node s
    → (values : List Value) × IsKnownPrefix s values × Returns returning now (length values)

-- the node knows so many values without a gap that requests are not left
abbrev pub IsBack : {D : Type 0} → Returning → ℕ → Running D → Type 0
IsBack returning now node = (s : Node) → IsNodeOf node s
    → (values : List Value) × IsKnownPrefix s values × ¬ (Returns returning now (length values))

-- Each client has its turn. While the server is coming back, no client has, and nothing is done
abbrev pub AnswersOrLeaves : {D T : Type 0} → Returning → ℕ → Times → Served D → Served D → List (Seat T)
    → List (Seat T) → Type 0
AnswersOrLeaves returning now times mid after old new =
    (IsBack returning now mid.node × AreAnswered offered times now mid after old new)
    ⊎ (ComesBack returning now mid.node × (after ≡ mid) × (new ≡ old))
