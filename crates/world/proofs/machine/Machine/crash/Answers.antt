use Rattle.std.proofs.Common.{[], sym, subst}
use Rattle.node.specs.Nodes.{Down}
use Rattle.world.specs.declared.machine.Machine.{Machine}
use Rattle.world.specs.Machines.{Turns, Settled}
use Rattle.world.proofs.Turning.{crashed}
use Rattle.world.proofs.machine.Machine.crash.Goals as goal

pub returns : goal.returns
returns g n p =
    subst (λ (m : Machine). Turns n p (λ s out next. Settled Down s out next) g.args.self.now m [] []) (sym g.put.ensures) (crashed n p _ _ _ (g.take-disk.ensures n p) g.crash.ensures.left)
