use Rattle.std.proofs.Common.{◌≤◌, rules}
use Rattle.world.proofs.Turning.{is_running, not_both}
use Rattle.world.proofs.Asked.{open_at, down_at}
use Rattle.world.proofs.world.World.state.Goals as goal

pub returns-then-is_stopped : goal.returns-then-is_stopped
returns-then-is_stopped c w stands =
    let one : 1 ≤ c.args.node = search rules in
    (c.is_stopped.ensures (w.node c.args.node) (open_at c.args.self.now c.args.node c.machine.result.now one c.machine.ensures _ _ c.in-Open.is w stands).stands).0 c.if-is_stopped.true

pub returns-in-Bare : goal.returns-in-Bare
returns-in-Bare c w stands = let one : 1 ≤ c.args.node = search rules in down_at c.args.self.now c.args.node c.machine.result.now one c.machine.ensures _ c.in-Bare.is w stands

pub returns-else-is_stopped : goal.returns-else-is_stopped
returns-else-is_stopped c w stands =
    let one : 1 ≤ c.args.node = search rules in
    let mine = open_at c.args.self.now c.args.node c.machine.result.now one c.machine.ensures _ _ c.in-Open.is w stands in
    is_running _ _ mine.stands.parts.on_record.mode_is (λ is. not_both _ c.if-is_stopped.false ((c.is_stopped.ensures (w.node c.args.node) mine.stands).1 is))
