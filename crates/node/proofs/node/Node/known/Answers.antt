use Rattle.std.proofs.Common.{refl}
use Rattle.node.proofs.Gaps.{known_prefix}
use Rattle.node.proofs.node.Node.known.Goals as goal

pub returns : goal.returns
returns g c s stands = (c.prefix.result.now, known_prefix c.args.self.now.known.log s c.prefix.result.now stands.parts.known.values c.prefix.ensures.each c.prefix.ensures.gap, refl)
