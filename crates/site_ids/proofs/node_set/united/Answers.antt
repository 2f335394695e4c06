use Rattle.std.proofs.Common.{rules, get_or, false, ◌||◌}
use Rattle.site_ids.proofs.NodeSetLemmas.{set_next}
use Rattle.site_ids.proofs.node_set.united.Goals as goal

pub loop-i-preserved : goal.loop-i-preserved
loop-i-preserved c = (
  search rules,
  set_next c.loop-i.all c.loop-i.i c.either.result false
      (λ k. get_or c.args.some k false || get_or c.args.others k false)
      (λ k. get_or c.args.others k false)
      (search rules) (search rules) c.loop-i.invariant.1,
)
