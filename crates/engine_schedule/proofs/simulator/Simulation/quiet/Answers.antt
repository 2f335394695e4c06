use Rattle.std.proofs.Common.{◌++◌, List, Ok, refl, subst, rules}
use Rattle.site_ids.specs.Ids.{IsNode}
use Rattle.world.specs.declared.event.Event.{Event}
use Rattle.world.specs.Steps.{RunEnds, Reached}
use Rattle.engine_schedule.proofs.Simulating.{planned}
use Rattle.engine_schedule.proofs.simulator.Simulation.quiet.Goals as goal

pub returns-in-Ok-clause-ok : goal.returns-in-Ok-clause-ok
returns-in-Ok-clause-ok c =
    let old = c.args.self.now in
    let world = c.run.new.self in
    let plan = c.in_ok-plan.plan.items in
    let node : IsNode old.world.cluster c.args.node = search rules in
    let ends : RunEnds old.world world plan (Ok tt) = subst (λ (l : List Event). RunEnds old.world world l (Ok tt)) c.as_slice.ensures.value c.in-Ok.ensures.ends in (
      node,
      λ n events m. (
        events ++ plan,
        planned n old (record { world = world; settled = old.settled }) events plan c.args.node m c.in_ok-plan.ensures.short c.in_ok-plan.ensures.none ends c.run.ensures.whose
            (subst (λ (l : List Event). Reached world (events ++ l)) c.as_slice.ensures.value (c.in-Ok.ensures.reached events m.reached)) refl
            (λ reached quiet up u at. c.in_ok-plan.ensures.decides events reached world (Ok tt) quiet c.run.ensures.whose ends up u at),
      ),
    )
