use Rattle.std.proofs.Common.{◌≤◌, sym, ◌∙◌, rules}
use Rattle.std.proofs.lemmas.Bool.{false≢true}
use Rattle.node.proofs.Queueing.{is_true, true_is}
use Rattle.world.proofs.Asked.{machine_at}
use Rattle.world.proofs.world.World.may_decide.Goals as goal

pub returns-then-not-speaks_at : goal.returns-then-not-speaks_at
returns-then-not-speaks_at c w stands run =
    let code = c.args.self.now in
    let p = c.args.node in
    let one : 1 ≤ p = search rules in
    let told = c.speaks_at.ensures code.cluster p (w.node p) (machine_at code p c.machine-machine.result.now one c.machine-machine.ensures w stands) (run p (one, c.requires)) in
    (λ t. absurd (false≢true t), λ may. absurd (false≢true (sym c.if-not-speaks_at.true ∙ true_is c.speaks_at.result (told.1 may.not_mute))))

pub returns-then-not-has_two_rounds : goal.returns-then-not-has_two_rounds
returns-then-not-has_two_rounds c w stands run =
    let code = c.args.self.now in
    let p = c.args.node in
    let one : 1 ≤ p = search rules in
    let told = c.has_two_rounds.ensures code.cluster p (w.node p) (machine_at code p c.machine-machine.result.now one c.machine-machine.ensures w stands) (run p (one, c.requires)) in
    (λ t. absurd (false≢true t), λ may. absurd (false≢true (sym c.if-not-has_two_rounds.true ∙ true_is c.has_two_rounds.result (told.1 may.rounds))))

pub returns : goal.returns
returns c w stands run =
    let code = c.args.self.now in
    let p = c.args.node in
    let one : 1 ≤ p = search rules in
    let at = machine_at code p c.machine-machine.result.now one c.machine-machine.ensures w stands in
    let up = run p (one, c.requires) in
    let none = c.none_mute.ensures w stands run in (
      λ t. record {
        not_mute = (c.speaks_at.ensures code.cluster p (w.node p) at up).0 (is_true c.speaks_at.result c.if-not-speaks_at.false);
        none_mute = none.0 t;
        rounds = (c.has_two_rounds.ensures code.cluster p (w.node p) at up).0 (is_true c.has_two_rounds.result c.if-not-has_two_rounds.false);
      },
      λ may. none.1 may.none_mute,
    )
