use Rattle.std.proofs.Common.{rules, arith, get_or, false}
use Rattle.site_ids.proofs.NodeSetLemmas.{count_next, one_at_most}
use Rattle.site_ids.proofs.node_set.count.Goals as goal

pub loop-i-preserved : goal.loop-i-preserved
loop-i-preserved c =
    let few = one_at_most (get_or c.args.members c.loop-i.i false) c.one-count.result c.one-count.ensures in
    (count_next c.args.members c.loop-i.i c.loop-i.count c.one-count.result (search rules) c.one-count.ensures c.loop-i.invariant.0, omega (arith, few, c.loop-i.invariant.1))
