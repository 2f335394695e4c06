use Rattle.std.proofs.Common.{subst}
use Rattle.node.specs.Nodes.{IsMute}
use Rattle.node.proofs.Gaps.{first_unknown, all_known, not_all_known, one_first}
use Rattle.node.proofs.node.Node.only_learns.Goals as goal

pub returns-in-Some : goal.returns-in-Some
returns-in-Some g c s stands =
    let gap = c.in-Some.gap in
    let first = first_unknown c.args.self.now.known.log s.known gap stands.parts.known.values c.in-Some.ensures in
    let test = c.is_mute.ensures s stands in
    (λ t. (gap, first, test.0 t), λ learns. test.1 (subst (IsMute s) (one_first s.known gap learns.0 first learns.1) learns.2))

pub returns-in-None : goal.returns-in-None
returns-in-None g c s stands =
    (λ t. absurd (cc), λ learns. absurd (not_all_known s learns.0 learns.1 (all_known c.args.self.now.known.log s stands.parts.known.values c.in-None.ensures)))
