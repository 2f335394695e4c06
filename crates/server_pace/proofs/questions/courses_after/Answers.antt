use Rattle.std.proofs.Common.{rules, get_or, replicate, None, ◌∙◌}
use Rattle.std.proofs.lemmas.List.{get_or_default}
use Rattle.site_ids.proofs.NodeSetLemmas.{set_next}
use Rattle.server_pace.specs.Courses.{course_after}
use Rattle.server_pace.proofs.questions.courses_after.Goals as goal

pub loop-i-preserved : goal.loop-i-preserved
loop-i-preserved c =
    let i = c.loop-i.i in
    let times = c.args.times in
    let now = c.args.now in
    let asked = c.args.asked.now in
    let courses = c.args.courses.now in
    let asked_there = get_or_default asked i c.index-asked-i.result None (search rules) in (
      search rules,
      set_next c.loop-i.all i c.course_after.result None
          (λ k. course_after times now (get_or asked k None) (get_or courses k None))
          (λ k. get_or (replicate 9 None) k None)
          (search rules) (c.course_after.ensures ∙ (λ j. course_after times now (asked_there j) (get_or courses i None))) c.loop-i.invariant.1,
    )
