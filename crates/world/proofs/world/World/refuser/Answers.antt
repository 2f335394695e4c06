use Rattle.std.proofs.Common.{◌≤◌, rules}
use Rattle.world.proofs.Asked.{machine_at}
use Rattle.world.proofs.QuietPlans.{all_run, none_left, refusal}
use Rattle.world.proofs.world.World.refuser.Goals as goal

pub returns-in_err-ballot : goal.returns-in_err-ballot
returns-in_err-ballot c = λ w stands quiet.
    let code = c.args.self.now in
    let p = c.args.node in
    let one : 1 ≤ p = search rules in
    let none = c.next_ballot.ensures code.cluster p (w.node p) (machine_at code p c.machine.result.now one c.machine.ensures w stands) (all_run code.cluster p w quiet p (one, c.requires)) in
    rw c.from_residual.ensures (none_left code.cluster p c.args.instance w (one, c.requires) quiet (rw c.in_err-ballot.was at none))

pub returns : goal.returns
returns c = λ w stands quiet.
    let code = c.args.self.now in
    let p = c.args.node in
    let one : 1 ≤ p = search rules in
    let some = c.next_ballot.ensures code.cluster p (w.node p) (machine_at code p c.machine.result.now one c.machine.ensures w stands) (all_run code.cluster p w quiet p (one, c.requires)) in
    refusal code.cluster p c.args.instance w c.in_ok-ballot.ballot c.overbidder.result (rw c.in_ok-ballot.was at some).0 (c.overbidder.ensures w stands (all_run code.cluster p w quiet))
