use Rattle.server_clients.specs.Lingering.{AreDropped}
use Rattle.server_clients.specs.declared.parting.Parting.{Parting}
use Rattle.server_clients.specs.declared.parting.TheConstants.{READS}
use Rattle.server_clients.proofs.parting.Parting.read_on.Given as goal

-- whatever so many readings more lead to, all of them lead to
abbrev pub invariant-loop-left : goal.invariant-loop-left
invariant-loop-left g l = record {
  leads : (new : Parting _) → AreDropped g.S.Read.remaining l.left l.self new
      → AreDropped g.S.Read.remaining READS l.initial.self new;
}

abbrev pub decreases-loop-left : goal.decreases-loop-left
decreases-loop-left g l = l.left
