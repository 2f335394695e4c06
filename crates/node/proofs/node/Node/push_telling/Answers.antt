use Rattle.std.proofs.Common.{sym, ◌∙◌}
use Rattle.node.proofs.Adding.{on_err}
use Rattle.node.proofs.ToldAgain.{tellable_one}
use Rattle.node.proofs.node.Node.push_telling.Goals as goal

-- there was a message to push
pub returns-in_err-push-clause-wanted : goal.returns-in_err-push-clause-wanted
returns-in_err-push-clause-wanted g c = on_err c.from_residual-in_err-push.result (λ s stands. tellable_one c.args.self.now.me s c.args.instance c.in-Some.message (sym c.in-Some.is ∙ c.in_ok-message.ensures.told s stands))
