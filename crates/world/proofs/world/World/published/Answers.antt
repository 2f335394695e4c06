use Rattle.std.proofs.Common.{◌≤◌, rules}
use Rattle.world.proofs.Asked.{begins_at, of_run}
use Rattle.world.proofs.world.World.published.Goals as goal

pub returns-in-Open-clause-begins : goal.returns-in-Open-clause-begins
returns-in-Open-clause-begins c w stands = let one : 1 ≤ c.args.node = search rules in begins_at c.args.self.now c.args.node c.machine.result.now one c.machine.ensures _ _ c.in-Open.is w stands

pub returns-in-Open-clause-decided : goal.returns-in-Open-clause-decided
returns-in-Open-clause-decided c events reached = of_run c.args.self.now c.args.node events reached _ (returns-in-Open-clause-begins c reached.world reached.stands)
