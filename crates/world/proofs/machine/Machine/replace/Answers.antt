use Rattle.std.proofs.Common.{◌≡◌, None, [], ◌∷◌, sym, subst}
use Rattle.durable.specs.Entries.{Floor}
use Rattle.node.specs.Nodes.{Down, opened}
use Rattle.world.specs.declared.machine.Machine.{Machine}
use Rattle.world.specs.Machines.{Turns}
use Rattle.world.proofs.Turning.{ok_of, replaced}
use Rattle.world.proofs.machine.Machine.replace.Goals as goal

pub returns-clause-ok : goal.returns-clause-ok
returns-clause-ok g =
    let made = ok_of g.format_above.result g.if-is_err.ensures.value g.format_above.ensures.formatted _ g.new-disk.ensures.state in
    subst (λ (m : Machine). Turns g.args.cluster g.args.me (λ s out next. (out ≡ []) × (next ≡ opened Down (Floor g.args.floor ∷ []) None)) g.args.self.now m [] []) (sym g.put.ensures)
    (replaced g.args.cluster g.args.me g.args.floor g.args.self.now _ made.1 made.2 made.3 made.5)
