use Rattle.std.proofs.Common.{rules, get_or, replicate, false, Some, None}
use Rattle.std.specs.Prelude.{if◌then◌else◌}
use Rattle.site_ids.proofs.NodeSetLemmas.{set_next}
use Rattle.server_pace.proofs.present.heard_at.Goals as goal

pub loop-i-preserved : goal.loop-i-preserved
loop-i-preserved c =
    let i = c.loop-i.i in
    let came = c.args.came in
    let at = c.args.at.now in (
      search rules,
      set_next c.loop-i.all i c.moment_of.result None
          (λ k. if get_or came k false then Some c.args.now else get_or at k None)
          (λ k. get_or (replicate 9 None) k None)
          (search rules) c.moment_of.ensures c.loop-i.invariant.1,
    )
