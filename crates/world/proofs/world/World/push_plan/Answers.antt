use Rattle.std.proofs.Common.{◌≡◌, ℕ, List, length, rules}
use Rattle.site_ids.specs.Ids.{IsNode}
use Rattle.proposer.specs.Attempts.{Attempt}
use Rattle.node.specs.Calls.{AreOpenElsewhere}
use Rattle.world.specs.Worlds.{World}
use Rattle.world.specs.Standing.{IsWorldOf}
use Rattle.world.specs.Quiet.{IsQuiet}
use Rattle.world.proofs.Asked.{machine_at}
use Rattle.world.proofs.Turning.{on_ok}
use Rattle.world.proofs.QuietPlans.{pushed_none, pushed_alone, pushed_refused}
use Rattle.world.proofs.world.World.push_plan.Goals as goal

pub returns-in_default : goal.returns-in_default
returns-in_default c = pushed_none c.args.self.now c.args.node c.args.plan.now.items (λ w stands quiet. c.in_default.ensures w stands quiet.instance quiet.unknown)

pub returns-in-None : goal.returns-in-None
returns-in-None c =
    let code = c.args.self.now in
    let p = c.args.node in
    let i = c.in-Some.instance in
    let node : IsNode code.cluster p = (search rules, c.requires) in
    let counted : (w : World) → IsWorldOf code w → IsQuiet code.cluster w p → (elsewhere : List (ℕ × Attempt)) → AreOpenElsewhere (w.node p) i elsewhere → c.tried_elsewhere-again.result ≡ length elsewhere
    = λ w stands quiet elsewhere are. c.tried_elsewhere-again.ensures code.cluster p (w.node p) elsewhere (machine_at code p c.machine.result.now node.0 c.machine.ensures w stands) (quiet.each p node).running (c.in-Some.ensures w stands) are in
    on_ok c.push_attempt.result (λ is. pushed_alone code p i c.tried_elsewhere-again.result node c.in-Some.ensures counted c.args.plan.now.items c.push_attempt.new.events.items is c.in-None.ensures) c.push_attempt.ensures

pub returns-in-Some-refuser : goal.returns-in-Some-refuser
returns-in-Some-refuser c =
    let code = c.args.self.now in
    let p = c.args.node in
    let i = c.in-Some.instance in
    let node : IsNode code.cluster p = (search rules, c.requires) in
    let counted : (w : World) → IsWorldOf code w → IsQuiet code.cluster w p → (elsewhere : List (ℕ × Attempt)) → AreOpenElsewhere (w.node p) i elsewhere → c.tried_elsewhere-again.result ≡ length elsewhere
    = λ w stands quiet elsewhere are. c.tried_elsewhere-again.ensures code.cluster p (w.node p) elsewhere (machine_at code p c.machine.result.now node.0 c.machine.ensures w stands) (quiet.each p node).running (c.in-Some.ensures w stands) are in
    on_ok c.push_overbid.result (λ is. pushed_refused code p i c.tried_elsewhere-again.result node c.in-Some.ensures counted c.args.plan.now.items c.push_overbid.new.events.items c.in-Some-refuser.highest is c.in-Some-refuser.ensures) c.push_overbid.ensures
