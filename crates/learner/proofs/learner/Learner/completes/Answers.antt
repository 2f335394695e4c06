use Rattle.std.proofs.Common.{◌∙◌}
use Rattle.learner.proofs.Adding.{completes_by}
use Rattle.learner.proofs.learner.Learner.completes.Goals as goal

pub returns : goal.returns
returns c =
    completes_by c.args.self.now c.at.result.now c.nodes_of.result c.with-nodes.result c.args.from c.args.instance c.args.ballot c.args.value.now c.from.result c.count_in.result c.at.ensures c.nodes_of.ensures c.with-nodes.ensures
    c.count_in.ensures (c.from.ensures ∙ c.quorum.ensures)
