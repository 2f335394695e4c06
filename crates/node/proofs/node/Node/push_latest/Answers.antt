use Rattle.std.proofs.Common.{sym, ap, ◌∙◌}
use Rattle.node.proofs.SendingAgain.{one_sent, none_sent, latest_of}
use Rattle.node.proofs.node.Node.push_latest.Goals as goal

pub returns-in_ok-push-in-Some : goal.returns-in_ok-push-in-Some
returns-in_ok-push-in-Some g c attempts are =
    c.in_ok-push-in-Some.ensures.items
    ∙ one_sent c.args.self.now.me c.args.instance c.args.again.now.items (attempts c.args.instance) c.in-Some.message
    (sym c.in-Some.is ∙ c.in_ok-message.ensures attempts are ∙ ap (λ p. latest_of p c.args.instance (attempts c.args.instance)) c.args.self.now.proposer_node)

pub returns-in-None : goal.returns-in-None
returns-in-None g c attempts are =
    none_sent c.args.self.now.me c.args.instance c.args.again.now.items (attempts c.args.instance)
    (sym c.in-None.is ∙ c.in_ok-message.ensures attempts are ∙ ap (λ p. latest_of p c.args.instance (attempts c.args.instance)) c.args.self.now.proposer_node)
