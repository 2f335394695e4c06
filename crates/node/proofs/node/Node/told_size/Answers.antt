use Rattle.std.proofs.Common.{◌+◌}
use Rattle.node.proofs.ToldAgain.{no_size}
use Rattle.node.proofs.node.Node.told_size.Goals as goal

-- past the last instance
pub returns-in_default : goal.returns-in_default
returns-in_default g c = λ s stands.
    no_size c.args.self.now.cluster s (c.args.first + c.args.past) stands.ranges stands.parts.on_record.history (λ range. c.in_default.ensures range)
