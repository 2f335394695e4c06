use Rattle.std.proofs.Common.{[], sym, subst}
use Rattle.node.specs.Nodes.{Up}
use Rattle.world.specs.declared.machine.Machine.{Machine}
use Rattle.world.specs.Machines.{Turns, Settled, RefusesOpening}
use Rattle.world.proofs.Turning.{opened_again, refused_opening, reopened}
use Rattle.world.proofs.machine.Machine.restart.Goals as goal

pub returns-in-Ok-clause-ok : goal.returns-in-Ok-clause-ok
returns-in-Ok-clause-ok g =
    let opened = opened_again _ _ _ _ _ (reopened _ _ _ _ _ (g.take-disk.ensures _ _) g.disarm.ensures.state) g.in-Ok.ensures.opened g.in-Ok.ensures.whose.0 g.in-Ok.ensures.whose.1 in
    subst (λ (m : Machine). Turns g.args.cluster g.args.me (λ s out next. Settled Up s out next) g.args.self.now m [] []) (sym g.put.ensures) opened

pub returns-in-Err-clause-err : goal.returns-in-Err-clause-err
returns-in-Err-clause-err g =
    let refused = refused_opening _ _ _ _ _ (reopened _ _ _ _ _ (g.take-disk.ensures _ _) g.disarm.ensures.state) (λ d stands. (g.in-Err.ensures.refused d stands).0) in
    subst (λ (m : Machine). RefusesOpening g.args.cluster g.args.me g.args.self.now m) (sym g.put-in-Err.ensures) refused

pub returns-in-Err-clause-never : goal.returns-in-Err-clause-never
returns-in-Err-clause-never g s at =
    let kept = reopened _ _ _ _ _ (g.take-disk.ensures _ _) g.disarm.ensures.state s at in
    g.in-Err.ensures.never kept.0 s.entries s.in_flight kept.1 kept.2
