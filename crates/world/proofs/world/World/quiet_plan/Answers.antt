use Rattle.std.proofs.Common.{sym, ◌∙◌, rules}
use Rattle.std.proofs.lemmas.Bool.{false≢true}
use Rattle.site_ids.specs.Ids.{IsNode}
use Rattle.world.proofs.QuietPlans.{all_of_it}
use Rattle.world.proofs.Stretching.{quiet_runs_learn}
use Rattle.world.proofs.world.World.quiet_plan.Goals.{then-is_quiet+in_ok-push_plan, else-is_quiet}
use Rattle.world.proofs.world.World.quiet_plan.Goals as goal

pub returns-clause-decides : goal.returns-clause-decides
returns-clause-decides c = λ past reached new ended quiet same ends up. elim c.if-is_quiet.branch [
  | then-is_quiet+in_ok-push_plan w ↦ (
      let code = c.args.self.now in
      let node : IsNode code.cluster c.args.node = (search rules, c.requires) in
      quiet_runs_learn code new past c.if-is_quiet.plan.items reached c.args.node ended node same quiet (rw w.plan-is (all_of_it code c.args.node _ _ c.new-plan.ensures.items w.in_ok-push_plan.ensures reached.world reached.stands quiet)) ends up
      )
  | else-is_quiet w ↦ absurd (false≢true (sym w.if-is_quiet.false ∙ (c.is_quiet.ensures reached.world reached.stands).1 quiet))
]
