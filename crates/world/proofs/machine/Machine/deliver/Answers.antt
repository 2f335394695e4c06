use Rattle.node.specs.Calls.{deliver as delivery}
use Rattle.world.proofs.Turning.{passed_at, stopped_at, copy_wanted, not_passed, taken_at, wanted_at, up_wanting, on_ok, on_err, copy_at, turns_of, alien, not_both, err_given}
use Rattle.world.proofs.machine.Machine.deliver.Goals as goal

pub returns-in-Bare-clause-ok : goal.returns-in-Bare-clause-ok
returns-in-Bare-clause-ok g message got n p mine = passed_at n p (delivery message) _ _ _ g.in-Bare.is

pub returns-then-is_stopped-clause-ok : goal.returns-then-is_stopped-clause-ok
returns-then-is_stopped-clause-ok g message got n p mine = stopped_at message _ _ _ _ g.in-Open.is (λ s stands. (g.is_stopped.ensures s stands).0 g.if-is_stopped.true) n p

pub returns-in_err-message-in-Open-clause-err : goal.returns-in_err-message-in-Open-clause-err
returns-in_err-message-in-Open-clause-err g = err_given g.from_residual.result (copy_wanted _ _ _ g.args.sent.now.items g.in-Open.is (λ s stands is. not_both _ g.if-is_stopped.false ((g.is_stopped.ensures s stands).1 is)))

pub returns-then-not-is_of-clause-ok : goal.returns-then-not-is_of-clause-ok
returns-then-not-is_of-clause-ok g message got =
    let copy = g.in_ok-message-in-Open.message in
    turns_of copy message _ _ _ _ (copy_at g.args.sent.now.items g.args.index g.index.result.now copy message g.in_ok-message-in-Open.ensures g.index.ensures got)
    (not_passed copy _ _ _ _ _ g.in-Open.is (alien _ copy _ _ g.cluster.ensures g.if-not-is_of.true g.is_of.ensures.1))

pub returns-else-not-is_of-clause-ok : goal.returns-else-not-is_of-clause-ok
returns-else-not-is_of-clause-ok g =
    let copy = g.in_ok-message-in-Open.message in
    on_ok g.passed.result
    (λ turns message got. turns_of copy message _ _ _ _ (copy_at g.args.sent.now.items g.args.index g.index.result.now copy message g.in_ok-message-in-Open.ensures g.index.ensures got) (λ n p mine. turns n p))
    (taken_at _ (delivery copy) _ _ _ _ _ _ _ g.in-Open.is g.deliver.ensures.event g.deliver.ensures.others g.passed.ensures.ok)

pub returns-else-not-is_of-clause-err : goal.returns-else-not-is_of-clause-err
returns-else-not-is_of-clause-err g =
    let copy = g.in_ok-message-in-Open.message in
    on_err g.passed.result (λ wants n p. up_wanting n p (delivery copy) _ _ _ _ (wants n p)) (wanted_at _ (delivery copy) _ _ _ _ _ _ _ g.in-Open.is g.deliver.ensures.event g.deliver.ensures.others g.passed.ensures.err)
