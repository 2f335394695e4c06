use Rattle.std.proofs.Common.{arith, pow_pos}
use Rattle.std.proofs.lemmas.Nat.{one_shl}
use Rattle.learner.proofs.MaskLemmas.{mask_counted}
use Rattle.learner.proofs.node_mask.NodeMask.count_in.Goals as goal

pub overflow_sub-all : goal.overflow_sub-all
overflow_sub-all c = omega (arith, one_shl c.size.result 16 (omega arith), pow_pos c.size.result)

pub returns : goal.returns
returns c = mask_counted c.args.self.bits c.size.result c.args.cluster (omega arith) c.size.ensures.is
