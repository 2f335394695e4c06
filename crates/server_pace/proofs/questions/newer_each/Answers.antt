use Rattle.std.proofs.Common.{rules, get_or, replicate, None, ◌∙◌}
use Rattle.std.proofs.lemmas.List.{get_or_default}
use Rattle.site_ids.proofs.NodeSetLemmas.{set_next}
use Rattle.server_pace.specs.Questioning.{newer}
use Rattle.server_pace.proofs.questions.newer_each.Goals as goal

pub loop-i-preserved : goal.loop-i-preserved
loop-i-preserved c =
    let i = c.loop-i.i in
    let heard = c.args.heard.now in
    let asked = c.args.asked.now in
    let heard_there = get_or_default heard i c.index-heard-i.result None (search rules) in
    let asked_there = get_or_default asked i c.index-asked-i.result None (search rules) in (
      search rules,
      set_next c.loop-i.all i c.newer.result None
          (λ k. newer (get_or heard k None) (get_or asked k None))
          (λ k. get_or (replicate 9 None) k None)
          (search rules) (c.newer.ensures ∙ (λ j. newer (heard_there j) (asked_there j))) c.loop-i.invariant.1,
    )
