use Rattle.std.proofs.Common.{arith}
use Rattle.learner.proofs.MaskLemmas.{bit_added}
use Rattle.learner.proofs.node_mask.NodeMask.with.Goals as goal

pub returns : goal.returns
returns c p = bit_added c.args.self.bits c.number.result c.args.node p (omega arith) c.number.ensures.is
