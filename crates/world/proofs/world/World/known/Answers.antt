use Rattle.std.proofs.Common.{◌≤◌, [], refl, rules}
use Rattle.world.proofs.Asked.{open_at, none_known, of_run}
use Rattle.world.proofs.world.World.known.Goals as goal

pub returns-in-Bare-clause-is : goal.returns-in-Bare-clause-is
returns-in-Bare-clause-is c w stands = let one : 1 ≤ c.args.node = search rules in ([], none_known c.args.self.now c.args.node c.machine.result.now one c.machine.ensures _ c.in-Bare.is w stands, refl)

pub returns-in-Bare-clause-decided : goal.returns-in-Bare-clause-decided
returns-in-Bare-clause-decided c events reached =
    let is = returns-in-Bare-clause-is c reached.world reached.stands in
    (is.0, is.1, is.2, of_run c.args.self.now c.args.node events reached is.0 is.1.begins)

pub returns-in-Open-clause-is : goal.returns-in-Open-clause-is
returns-in-Open-clause-is c w stands =
    let one : 1 ≤ c.args.node = search rules in
    c.known.ensures (w.node c.args.node) (open_at c.args.self.now c.args.node c.machine.result.now one c.machine.ensures _ _ c.in-Open.is w stands).stands

pub returns-in-Open-clause-decided : goal.returns-in-Open-clause-decided
returns-in-Open-clause-decided c events reached =
    let is = returns-in-Open-clause-is c reached.world reached.stands in
    (is.0, is.1, is.2, of_run c.args.self.now c.args.node events reached is.0 is.1.begins)
